use Rattle.std.proofs.Common.{get_or, rules, sym, ◌∙◌, subst}
use Rattle.settle.specs.States.{Ended}
use Rattle.settle.proofs.Started.{started}
use Rattle.settle.proofs.filling.fill.fill_column.Goals as goal

pub settle_pairs-requires : goal.settle_pairs-requires
settle_pairs-requires g c =
    let s = c.args.store.now in
    record { before = (_, started g.met.M.Measure.laws (g.S.Store.roster s) (g.S.Store.book s) (g.met.S.Store.sound s) c.args.spot c.requires.known c.new-filling.result c.start_class.new.self c.start_class-2.new.self (c.new-filling.ensures.long ∙ c.requires.long) c.new-filling.ensures.blank c.new-filling.ensures.none c.start_class.ensures.column c.start_class-2.ensures.column c.start_class.ensures.sets c.start_class-2.ensures.sets) }

pub returns-clause-ended : goal.returns-clause-ended
returns-clause-ended g c =
    let s = c.args.store.now in
    let roster = g.S.Store.roster s in
    let book = g.S.Store.book s in
    let between = started g.met.M.Measure.laws roster book (g.met.S.Store.sound s) c.args.spot c.requires.known c.new-filling.result c.start_class.new.self c.start_class-2.new.self (c.new-filling.ensures.long ∙ c.requires.long) c.new-filling.ensures.blank c.new-filling.ensures.none c.start_class.ensures.column c.start_class-2.ensures.column c.start_class.ensures.sets c.start_class-2.ensures.sets in
    subst (Ended g.M.Measure.measure roster book (get_or roster c.args.spot 0)) (sym (search rules)) (c.settle_pairs.ensures.after _ between)
