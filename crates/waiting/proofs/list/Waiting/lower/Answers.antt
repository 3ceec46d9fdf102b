use Rattle.std.proofs.Common.{get_or, set, Some, None, sym, refl, subst, arith}
use Rattle.waiting.specs.Slots.{held_in}
use Rattle.waiting.specs.Lists.{held, room}
use Rattle.waiting.specs.Calls.{Sets}
use Rattle.waiting.proofs.Waits.{slot, place_at}
use Rattle.waiting.proofs.Changes.{idle, below, its_place, its_cost, lower_apart, lower_sets}
use Rattle.waiting.proofs.Answers.{changed, unchanged, lower_none, lower_not, lower_ok}
use Rattle.waiting.proofs.list.Waiting.lower.Goals as goal

pub returns-in_default-clause-after : goal.returns-in_default-clause-after
unfolding held room
returns-in_default-clause-after g c =
    unchanged (lower_none g.M.Measure.measure.less c.args.cost _ (idle c.args.self.now c.args.place None c.in_default.ensures refl))

pub returns-then-not-less-clause-after : goal.returns-then-not-less-clause-after
unfolding held room
returns-then-not-less-clause-after g c =
    let waits = its_cost c.args.self.now c.args.place c.in-Some.i c.in-Some.ensures c.index-slots-i.result in
    unchanged (lower_not g.M.Measure.measure.less c.args.cost _ _ waits (sym c.if-not-less.ensures))

pub invariant_of-self-2-clause-apart : goal.invariant_of-self-2-clause-apart
invariant_of-self-2-clause-apart g c =
    let w = c.args.self.now in
    let i = c.in-Some.i in
    let d = c.index-slots-i-2.result in
    let lt = below w c.args.place i c.in-Some.ensures d in
    lower_apart w i _ lt (place_at w.slots.now i d (omega (arith, w.fits)))

pub returns-clause-after : goal.returns-clause-after
unfolding held room
returns-clause-after g c =
    let w = c.args.self.now in
    let i = c.in-Some.i in
    let d = c.index-slots-i-2.result in
    let s = slot (get_or w.slots.now i d).place c.args.cost in
    let lt = below w c.args.place i c.in-Some.ensures d in
    let sets = lower_sets w i s lt (place_at w.slots.now i d (omega (arith, w.fits))) in
    let waits = its_cost w c.args.place i c.in-Some.ensures c.index-slots-i.result in
    changed _ w.used i w.slots.now s lt w.fits (lower_ok g.M.Measure.measure.less c.args.cost _ _ waits (sym c.if-not-less.ensures))
    (subst (λ p. Sets (held_in w.used w.slots.now) (held_in w.used (set w.slots.now i s)) p (Some c.args.cost)) (its_place w c.args.place i c.in-Some.ensures d) sets) refl
