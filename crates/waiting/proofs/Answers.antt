-- Accepted and refused calls. Assumes nothing.
use Rattle.std.proofs.Common.{◌≡◌, ℕ, ◌-◌, ◌<◌, ◌≤◌, Bool, true, false, List, length, set, is_some, Some, None, Ok, Err, Option, sym, refl, ap, ◌∙◌, subst, arith}
use Rattle.std.proofs.lemmas.List.{length-set, drop-set-lt}
use Rattle.std.proofs.lemmas.Bool.{both_ways}
use Rattle.std.proofs.lemmas.Bool.Decides.{nat_tests}
use Rattle.waiting.specs.declared.types.Slot.{Slot}
use Rattle.waiting.specs.declared.types.WaitingRefusal.{WaitingRefusal}
use Rattle.waiting.specs.declared.types.WaitingRefusal.TheVariants.{AlreadyWaiting, Full, NotLower}
use Rattle.waiting.specs.Slots.{held_in, room_in}
use Rattle.waiting.specs.Calls.{Answer, Changes, Put, Lower, Sets, accepted, with_place, put_answer, lower_answer}

module _ {C : Type 0} where
  pub put_waiting : (o : Option C) (room : ℕ) → is_some o ≡ true → put_answer o room ≡ Err AlreadyWaiting
  put_waiting o room p = grind (arith, nat_tests)

  pub put_full : (o : Option C) (room : ℕ) → o ≡ None → room ≡ 0 → put_answer o room ≡ Err Full
  put_full o room p q = grind (arith, nat_tests)

  pub put_ok : (o : Option C) (room : ℕ) → o ≡ None → 0 < room → put_answer o room ≡ Ok tt
  put_ok o room p q = grind (arith, nat_tests)

  pub lower_none : (less : C → C → Bool) (c : C) (o : Option C) → o ≡ None → lower_answer less c o ≡ Err NotLower
  lower_none less c o p = cc

  pub lower_not : (less : C → C → Bool) (c e : C) (o : Option C) → o ≡ Some e → less c e ≡ false → lower_answer less c o ≡ Err NotLower
  lower_not less c e o p q = cc

  pub lower_ok : (less : C → C → Bool) (c e : C) (o : Option C) → o ≡ Some e → less c e ≡ true → lower_answer less c o ≡ Ok tt
  lower_ok less c e o p q = cc

  -- a refused call
  pub unchanged : {answer : Answer} {x : WaitingRefusal} {next held : ℕ → Option C} {left room : ℕ} {memory : List (Slot C)} → answer ≡ Err x →
      Changes answer next left held held room room memory memory (Err x)
  unchanged {answer} {x} {next} {held} {left} {room} {memory} e =
      subst (λ a. Changes a next left held held room room memory memory (Err x)) (sym e)
      (record { answer_is = refl; held_then = λ q. refl; room_then = refl; refused = λ z. refl; beyond = refl; long = refl })

  -- an accepted call, which writes the slot s at i, so that m slots wait
  pub changed : (answer : Answer) (m i : ℕ) (xs : List (Slot C)) (s : Slot C) {next held : ℕ → Option C} {left room : ℕ} → i < m → m ≤ length xs → answer ≡ Ok tt → ((q : ℕ) → held_in m (set xs i s) q ≡ next q) → length xs - m ≡ left →
      Changes answer next left held (held_in m (set xs i s)) room (room_in m (set xs i s)) xs (set xs i s) (Ok tt)
  changed answer m i xs s {next} {held} {left} {room} lt fits ok sets size =
      let e = length-set xs i s in
      subst (λ a. Changes a next left held (held_in m (set xs i s)) room (room_in m (set xs i s)) xs (set xs i s) (Ok tt)) (sym ok)
      (record { answer_is = refl; held_then = sets; room_then = omega arith; refused = λ z. absurd (both_ways true z refl); beyond = drop-set-lt (length xs - room_in m (set xs i s)) xs i s (omega arith); long = e })

-- calls that cannot be refused
module _ {C : Type 0} (p : ℕ) (c : C) {held held' : ℕ → Option C} {room room' : ℕ} {memory memory' : List (Slot C)} {r : Answer} where
  pub put_sets : Put p c held held' room room' memory memory' r → held p ≡ None → 0 < room → Sets held held' p (Some c)
  put_sets h idle free q = h.held_then q ∙ ap (λ a. accepted a (with_place held p (Some c)) held q) (put_ok (held p) room idle free)

  pub lower_sets : (less : C → C → Bool) (e : C) → Lower less p c held held' room room' memory memory' r → held p ≡ Some e → less c e ≡ true → Sets held held' p (Some c)
  lower_sets less e h waits lower q = h.held_then q ∙ ap (λ a. accepted a (with_place held p (Some c)) held q) (lower_ok less c e (held p) waits lower)
