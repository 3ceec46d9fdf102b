-- What a roster's places say of its ASes. Assumes nothing.
use Rattle.std.specs.Prelude.{slice_get}
use Rattle.std.proofs.Common.{◌≡◌, ℕ, zero, suc, ◌-◌, ◌<◌, ◌≤◌, min, max, true, eqb, List, [], ◌∷◌, ◌++◌, length, get_or, Some, None, sym, refl, ap, ◌∙◌, ⊎_elim, arith}
use Rattle.std.proofs.lemmas.Bool.{cases_lt, ne_eqb, cond-false}
use Rattle.std.proofs.lemmas.Bool.Decides.{nat_tests}
use Rattle.network.proofs.Somes.{none_some}
use Rattle.network.proofs.Rising.{rising, among_place}
use Rattle.network.specs.Rosters.{Among, later, place, climbs, roster_from}

pub at_front : {X : Type 0} (xs ys : List X) (i : ℕ) → i < length xs → slice_get (xs ++ ys) i ≡ slice_get xs i
at_front [] ys i h = absurd (omega arith)
at_front (x ∷ xs) ys zero h = refl
at_front (x ∷ xs) ys (suc i) h = at_front xs ys i (omega arith)

pub at_back : {X : Type 0} (xs ys : List X) (i : ℕ) → length xs ≤ i → slice_get (xs ++ ys) i ≡ slice_get ys (i - length xs)
at_back [] ys i h = let e : i ≡ i - 0 = omega arith in ap (slice_get ys) e
at_back (x ∷ xs) ys zero h = absurd (omega arith)
at_back (x ∷ xs) ys (suc i) h = let e : i - length xs ≡ suc i - suc (length xs) = omega arith in at_back xs ys i (omega arith) ∙ ap (slice_get ys) e

-- the place of an AS is the first at which it stands ..
pub place_first : (xs : List ℕ) (a i : ℕ) → i < length xs → ((k : ℕ) → k < i → get_or xs k 0 ≡ a → ⊥) → get_or xs i 0 ≡ a → place xs a ≡ Some i
place_first [] a i h other here = absurd (omega arith)
place_first (x ∷ xs) a zero h other here = grind (arith, nat_tests)
place_first (x ∷ xs) a (suc i) h other here =
    cond-false (eqb x a) (Some 0) (later (place xs a)) (ne_eqb x a (other 0 (omega arith))) ∙
    ap later (place_first xs a i (omega arith) (λ k l. other (suc k) (omega arith)) here)

-- .. and there is none if it stands nowhere
pub place_nowhere : (xs : List ℕ) (a : ℕ) → ((k : ℕ) → k < length xs → get_or xs k 0 ≡ a → ⊥) → place xs a ≡ None
place_nowhere [] a other = refl
place_nowhere (x ∷ xs) a other =
    cond-false (eqb x a) (Some 0) (later (place xs a)) (ne_eqb x a (other 0 (omega arith))) ∙
    ap later (place_nowhere xs a (λ k l. other (suc k) (omega arith)))

-- an AS without a place is not in the roster
pub place_none : (xs : List ℕ) (a : ℕ) → place xs a ≡ None → Among a xs → ⊥
place_none xs a e m = none_some e (among_place xs a m).1

-- the roster that is made of a list of numbers
pub from_few : (most : ℕ) (xs : List ℕ) → length (roster_from most xs) ≤ most
from_few most xs = grind (arith, nat_tests)

pub from_rising : (most : ℕ) (xs : List ℕ) → climbs 0 (roster_from most xs) ≡ true
from_rising most xs = grind (arith, nat_tests)

module _ (xs : List ℕ) (climbing : climbs 0 xs ≡ true) (i j : ℕ) (hi : i < length xs) (hj : j < length xs) where
  -- the lower of two ASes stands at the lower of their places, and the higher at the higher
  pub places_ordered : (min (get_or xs i 0) (get_or xs j 0) ≡ get_or xs (min i j) 0) × (max (get_or xs i 0) (get_or xs j 0) ≡ get_or xs (max i j) 0)
  places_ordered = ⊎_elim below above (cases_lt i j)
    where
      below : i < j → (min (get_or xs i 0) (get_or xs j 0) ≡ get_or xs (min i j) 0) × (max (get_or xs i 0) (get_or xs j 0) ≡ get_or xs (max i j) 0)
      below l =
          let r = rising 0 xs climbing i j l hj in
          let a : min i j ≡ i = omega arith in
          let b : max i j ≡ j = omega arith in
          let p : min (get_or xs i 0) (get_or xs j 0) ≡ get_or xs i 0 = omega arith in
          let q : max (get_or xs i 0) (get_or xs j 0) ≡ get_or xs j 0 = omega arith in
          (p ∙ ap (λ k. get_or xs k 0) (sym a), q ∙ ap (λ k. get_or xs k 0) (sym b))

      equal : i ≡ j → get_or xs j 0 ≤ get_or xs i 0
      equal e = let f = ap (λ k. get_or xs k 0) e in omega arith

      falls : j < i → get_or xs j 0 ≤ get_or xs i 0
      falls l = let r = rising 0 xs climbing j i l hi in omega arith

      above : j ≤ i → (min (get_or xs i 0) (get_or xs j 0) ≡ get_or xs (min i j) 0) × (max (get_or xs i 0) (get_or xs j 0) ≡ get_or xs (max i j) 0)
      above l =
          let r : get_or xs j 0 ≤ get_or xs i 0 = ⊎_elim falls (λ (k : i ≤ j). equal (omega arith)) (cases_lt j i) in
          let a : min i j ≡ j = omega arith in
          let b : max i j ≡ i = omega arith in
          let p : min (get_or xs i 0) (get_or xs j 0) ≡ get_or xs j 0 = omega arith in
          let q : max (get_or xs i 0) (get_or xs j 0) ≡ get_or xs i 0 = omega arith in
          (p ∙ ap (λ k. get_or xs k 0) (sym a), q ∙ ap (λ k. get_or xs k 0) (sym b))
