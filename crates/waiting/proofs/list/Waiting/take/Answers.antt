use Rattle.std.proofs.Common.{ℕ, ◌-◌, ◌<◌, length, set, true, None, sym, refl, ap, ◌∙◌, subst, add-zero, arith}
use Rattle.std.proofs.lemmas.List.{get_or-take, length-set, drop-set-lt}
use Rattle.std.proofs.lemmas.Bool.{both_ways}
use Rattle.waiting.specs.Slots.{held_in}
use Rattle.waiting.specs.Lists.{held, room}
use Rattle.waiting.specs.Calls.{Sets}
use Rattle.waiting.proofs.Waits.{place_at}
use Rattle.waiting.proofs.Changes.{ys, short, apart, take_apart, take_sets}
use Rattle.waiting.proofs.Sooner.{least_first}
use Rattle.waiting.proofs.list.Waiting.take.Goals as goal

pub returns-then-self-eq0-clause-after : goal.returns-then-self-eq0-clause-after
unfolding held room
returns-then-self-eq0-clause-after g c =
    let w = c.args.self.now in
    record {
      answer = λ q. ap (λ k. held_in k w.slots.now q) c.if-self-eq0.true;
      held_then = λ q. refl;
      room_then = sym (add-zero (room w));
      refused = λ z. refl;
      beyond = refl;
      long = refl;
    }

pub invariant_of-self-clause-apart : goal.invariant_of-self-clause-apart
invariant_of-self-clause-apart g c =
    let w = c.args.self.now in
    take_apart w (w.used - 1) c.first-i.result c.index-slots-self.result (omega arith) (omega (arith, c.first-i.ensures.0, short w)) c.index-slots-self.is

pub returns-clause-after : goal.returns-clause-after
unfolding held room
returns-clause-after g c =
    let w = c.args.self.now in
    let xs = w.slots.now in
    let m : ℕ = w.used - 1 in
    let i : ℕ = c.first-i.result in
    let s = c.index-slots-i.result in
    let l = c.index-slots-self.result in
    let lt : i < w.used = omega (arith, c.first-i.ensures.0, short w) in
    let place = place_at xs i s (omega (arith, w.fits)) ∙ ap (λ t. t.place) (sym c.index-slots-i.is) in
    let long = length-set xs i l in
    record {
      answer = least_first g.M.Measure.measure g.met.M.Measure.laws (ys w) (apart w) i s c.first-i.ensures (c.index-slots-i.is ∙ sym (get_or-take w.used xs i s lt));
      held_then = subst (λ p. Sets (held_in w.used xs) (held_in m (set xs i l)) p None) place (take_sets w m i l (omega arith) lt c.index-slots-self.is);
      room_then = omega (arith, w.fits);
      refused = λ z. absurd (both_ways true z refl);
      beyond = drop-set-lt (length xs - room w) xs i l (omega (arith, w.fits));
      long = long;
    }
