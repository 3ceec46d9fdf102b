-- A waiting list whose places are all below N, and that lacks one of them, has room if its memory has N slots. Assumes nothing.
use Rattle.std.proofs.Common.{◌≡◌, ℕ, ◌<◌, ◌≤◌, true, false, ◌||◌, eqb, List, [], ◌∷◌, ◌++◌, length, is_some, Some, None, Option, sym, refl, ap, ◌∙◌, arith, length-append}
use Rattle.std.specs.Cmp.{nat_eq_equiv}
use Rattle.std.specs.List.{IsDistinct}
use Rattle.std.proofs.lemmas.List.{length-map, get_or_default}
use Rattle.std.proofs.lemmas.List.Folds.{list_any-append}
use Rattle.std.proofs.lemmas.Map.Keys.{IsDistinct-from_apart, IsDistinct-push}
use Rattle.std.proofs.lemmas.Map.Steps.{length-le_from_distinct_below}
use Rattle.std.proofs.lemmas.Bool.{ne_eqb}
use Rattle.std.proofs.lemmas.Bool.Decides.{nat_tests}
use Rattle.waiting.specs.declared.types.Slot.{Slot}
use Rattle.measure.specs.declared.Measure.{Ghosts}
use Rattle.waiting.specs.declared.list.Waiting.{Waiting}
use Rattle.waiting.specs.Slots.{waits, places, Apart}
use Rattle.waiting.specs.Lists.{held, room, memory}
use Rattle.waiting.proofs.Waits.{any_waits}
use Rattle.waiting.proofs.Changes.{ys, short, apart}

module _ {C : Type 0} where
  -- slots whose places, none of them twice, are all below N, but none of them p
  fewer : (ys : List (Slot C)) → Apart (length ys) ys → (N p : ℕ) → p < N → ((q : ℕ) (c : C) → waits ys q ≡ Some c → q < N) → waits ys p ≡ None → length ys < N
  fewer ys a N p h bounded idle =
      let e = length-map ys (λ s. s.place) in
      let le = length-le_from_distinct_below (places ys ++ p ∷ []) N (IsDistinct-push nat_eq_equiv (places ys) p distinct (any_waits ys p ∙ ap is_some idle)) (λ q z. below (waits ys q) q refl (ap (λ b. b || (eqb q p || false)) (sym (any_waits ys q)) ∙ sym (list_any-append (eqb q) (places ys) (p ∷ [])) ∙ z)) in
      omega (arith, length-append (places ys) (p ∷ []))
    where
      distinct : IsDistinct eqb (places ys)
      distinct =
          IsDistinct-from_apart eqb (places ys) (λ i j d lt h. ne_eqb _ _ (λ z.
          let e = length-map ys (λ s. s.place) in
          let w : i ≡ j = a i j (omega arith, omega arith, get_or_default (places ys) i 0 d (omega arith) ∙ z ∙ get_or_default (places ys) j d 0 h) in
          omega arith))

      below : (o : Option C) (q : ℕ) → waits ys q ≡ o → (is_some o || (eqb q p || false)) ≡ true → q < N
      below (Some c) q e z = bounded q c e
      below None q e z = grind (arith, nat_tests)

module _ {X C : Type 0} {g : Ghosts X C} (w : Waiting X C g) where
  pub room_left : (N p : ℕ) → p < N → ((q : ℕ) (c : C) → held w q ≡ Some c → q < N) → held w p ≡ None → N ≤ length (memory w) → 0 < room w
  unfolding held room
  room_left N p h bounded idle size =
      let few = fewer (ys w) (apart w) N p h bounded idle in
      omega (arith, short w)
