use Rattle.std.proofs.Common.{get_or, ap}
use Rattle.legality.specs.declared.types.Class.TheVariants.{Home, Outside}
use Rattle.labels.specs.Labels.{Less}
use Rattle.table.specs.Columns.{entry}
use Rattle.settle.specs.States.{Untouched}
use Rattle.settle.proofs.Linked.{passed, within, end_limits, class_asks, class_told, both_told}
use Rattle.settle.proofs.filling.Filling.relax_link.Goals as goal

pub returns-in_default-clause-after : goal.returns-in_default-clause-after
returns-in_default-clause-after g c =
    let s = c.args.store.now in
    λ d q r. passed g.met.M.Measure.laws (g.S.Store.roster s) (g.S.Store.book s) (g.met.S.Store.sound s) c.args.from c.args.spot d q c.in_default.ensures c.args.self.now r

pub extend-requires : goal.extend-requires
extend-requires g c =
    let s = c.args.store.now in
    let roster = g.S.Store.roster s in
    let book = g.S.Store.book s in
    let from = c.args.from in
    record {
      within = within g.met.M.Measure.laws roster book (g.met.S.Store.sound s) from c.args.spot c.requires.before.0 c.requires.before.1 (Untouched book c.args.spot (get_or roster from.place 0)) c.args.self.now c.requires.before.2;
      limits = end_limits roster book (g.met.S.Store.sound s) from.place c.args.spot c.in-Some.end c.in-Some.ensures;
    }

pub relax_class-requires : goal.relax_class-requires
relax_class-requires g c =
    let s = c.args.store.now in
    let roster = g.S.Store.roster s in
    let book = g.S.Store.book s in
    let from = c.args.from in
    let asks = class_asks g.met.M.Measure.laws roster book (g.met.S.Store.sound s) from c.args.spot c.requires.before.0 c.requires.before.1 c.in-Some.end c.in-Some.ensures _ (ap (entry from.place) c.extend.ensures) c.requires.known (Untouched book c.args.spot (get_or roster from.place 0)) Home c.args.self.now c.requires.before.2 in
    record { within = asks.0; ready = asks.1 }

pub relax_class-requires-2 : goal.relax_class-requires-2
relax_class-requires-2 g c =
    let laws = g.met.M.Measure.laws in
    let s = c.args.store.now in
    let roster = g.S.Store.roster s in
    let book = g.S.Store.book s in
    let sound = g.met.S.Store.sound s in
    let from = c.args.from in
    let k = c.args.spot in
    let y = c.relax_class.new.self in
    let d = c.requires.before.0 in
    let q = c.requires.before.1 in
    let Fresh = Untouched book k (get_or roster from.place 0) in
    let is = ap (entry from.place) c.extend.ensures in
    let o = c.in-Some.ensures in
    let r = class_told laws roster book sound from k d q c.in-Some.end o _ is c.requires.known Fresh Home c.args.self.now c.requires.before.2 y c.relax_class.ensures.told in
    let asks = class_asks laws roster book sound from k d q c.in-Some.end o _ is c.requires.known (Less Fresh o.other Home) Outside y r in
    record { within = asks.0; ready = asks.1 }

pub returns-clause-after : goal.returns-clause-after
returns-clause-after g c =
    let laws = g.met.M.Measure.laws in
    let s = c.args.store.now in
    let roster = g.S.Store.roster s in
    let book = g.S.Store.book s in
    let sound = g.met.S.Store.sound s in
    let from = c.args.from in
    let k = c.args.spot in
    let Fresh = Untouched book k (get_or roster from.place 0) in
    let is = ap (entry from.place) c.extend.ensures in
    let o = c.in-Some.ensures in
    λ d q r.
    both_told laws roster book sound from k d q c.in-Some.end o _ is c.requires.known c.relax_class-2.new.self
    (class_told laws roster book sound from k d q c.in-Some.end o _ is c.requires.known (Less Fresh o.other Home) Outside c.relax_class.new.self
    (class_told laws roster book sound from k d q c.in-Some.end o _ is c.requires.known Fresh Home c.args.self.now r c.relax_class.new.self c.relax_class.ensures.told)
    c.relax_class-2.new.self c.relax_class-2.ensures.told)
