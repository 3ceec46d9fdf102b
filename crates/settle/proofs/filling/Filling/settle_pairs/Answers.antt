use Rattle.std.proofs.Common.{refl, ◌∙◌}
use Rattle.labels.specs.Labels.{size}
use Rattle.settle.specs.States.{taken_of}
use Rattle.settle.proofs.Turned.{still_waits, taking, known, left, begun, more, ended, falls, settled}
use Rattle.settle.proofs.filling.Filling.settle_pairs.Goals as goal

pub invariant_of-self-clause-bounded : goal.invariant_of-self-clause-bounded
invariant_of-self-clause-bounded g c = λ p k h. c.loop-slot.self.bounded p k (still_waits c.take.result c.take.ensures.after p k h)

pub relax_links-requires : goal.relax_links-requires
relax_links-requires g c =
    let s = c.args.store.now in
    let laws = g.met.M.Measure.laws in
    let roster = g.S.Store.roster s in
    let book = g.S.Store.book s in
    let sound = g.met.S.Store.sound s in
    let x = c.loop-slot.self in
    let w = c.take.new.self in
    let d = c.requires.before.0 in
    let r = c.loop-slot.invariant.1 d c.requires.before.1 in
    let t = taking x w c.in-Some.slot c.into.result c.in-Some.ensures.after c.into.ensures in
    record {
      known = known laws roster book sound d x w r c.into.result t;
      before = (
        d,
        left laws roster book sound d x w r c.into.result t,
        begun laws roster book sound d x w r c.into.result t _ refl refl,
      );
    }

pub loop-slot-smaller : goal.loop-slot-smaller
loop-slot-smaller g c =
    let s = c.args.store.now in
    let laws = g.met.M.Measure.laws in
    let roster = g.S.Store.roster s in
    let book = g.S.Store.book s in
    let sound = g.met.S.Store.sound s in
    let x = c.loop-slot.self in
    let w = c.take.new.self in
    let d = c.requires.before.0 in
    let r = c.loop-slot.invariant.1 d c.requires.before.1 in
    let t = taking x w c.in-Some.slot c.into.result c.in-Some.ensures.after c.into.ensures in
    let q = left laws roster book sound d x w r c.into.result t in
    falls laws roster book sound d c.into.result q c.relax_links.new.self
    (c.relax_links.ensures.after d q (begun laws roster book sound d x w r c.into.result t _ refl refl))
    (size (taken_of roster x) roster) (more laws roster book sound d x w r c.into.result t)

pub loop-slot-preserved : goal.loop-slot-preserved
loop-slot-preserved g c =
    let s = c.args.store.now in
    let laws = g.met.M.Measure.laws in
    let roster = g.S.Store.roster s in
    let book = g.S.Store.book s in
    let sound = g.met.S.Store.sound s in
    let x = c.loop-slot.self in
    let w = c.take.new.self in
    let t = taking x w c.in-Some.slot c.into.result c.in-Some.ensures.after c.into.ensures in (
      c.relax_links.ensures.lent ∙ c.loop-slot.invariant.0,
      λ d h.
          let r = c.loop-slot.invariant.1 d h in
          let q = left laws roster book sound d x w r c.into.result t in
          ended laws roster book sound d c.into.result q c.relax_links.new.self
          (c.relax_links.ensures.after d q (begun laws roster book sound d x w r c.into.result t _ refl refl)),
    )

pub returns-clause-after : goal.returns-clause-after
returns-clause-after g c =
    let s = c.args.store.now in
    λ d h. settled g.met.M.Measure.laws (g.S.Store.roster s) (g.S.Store.book s) (g.met.S.Store.sound s) d c.loop-slot.self c.take.new.self (c.loop-slot.invariant.1 d h) c.in_default.ensures.after
