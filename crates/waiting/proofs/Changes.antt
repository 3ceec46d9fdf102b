-- What the search for a place says of a waiting list, and what the calls make of its slots. Assumes nothing.
use Rattle.std.proofs.Common.{◌≡◌, ℕ, ◌+◌, ◌<◌, ◌≤◌, eqb, ◌≢◌, List, [], ◌∷◌, ◌++◌, length, get_or, take, set, true, false, is_some, Some, None, Option, sym, ap, ◌∙◌, ⊎_elim, arith}
use Rattle.std.specs.Map.{update}
use Rattle.std.specs.List.{position}
use Rattle.std.proofs.Math.Seq.{take-set-lt}
use Rattle.std.proofs.lemmas.List.{length-take-le, get_or-take, take_more, take_more_set, take-set-le}
use Rattle.std.proofs.lemmas.List.Quantifiers.{position-Some}
use Rattle.std.proofs.lemmas.Bool.{cases_eq, eqb-true}
use Rattle.std.proofs.lemmas.Bool.Decides.{nat_tests}
use Rattle.measure.specs.declared.Measure.{Ghosts}
use Rattle.waiting.specs.declared.types.Slot.{Slot}
use Rattle.waiting.specs.declared.list.Waiting.{Waiting}
use Rattle.waiting.specs.Slots.{waits, held_in, Apart}
use Rattle.waiting.specs.Lists.{memory}
use Rattle.waiting.specs.Calls.{Sets}
use Rattle.waiting.proofs.Waits.{there, place_at, place_take, apart_set, apart_take, waits_none, waits_at, waits_push, waits_set, absent, found}

module _ {X C : Type 0} {g : Ghosts X C} (w : Waiting X C g) where
  abbrev n : ℕ
  n = w.used

  abbrev xs : List (Slot C)
  xs = memory w

  abbrev pub ys : List (Slot C)
  ys = take n xs

  pub short : length ys ≡ n
  short = length-take-le n xs w.fits

  pub apart : Apart (length ys) ys
  apart = apart_take n xs w.fits w.apart

  -- r is what the search for the place q answers
  module _ (q : ℕ) (r : Option ℕ) (is : r ≡ position (λ s. eqb s.place q) ys) where
    pub waiting : true ≡ is_some r → is_some (waits ys q) ≡ true
    waiting e = sym (e ∙ ap is_some is ∙ found ys q)

    pub idle : false ≡ is_some r → waits ys q ≡ None
    idle e = let f = e ∙ ap is_some is ∙ found ys q in grind arith

  -- it finds the slot at i
  module _ (q i : ℕ) (is : Some i ≡ position (λ s. eqb s.place q) ys) (d : Slot C) where
    abbrev at : (i < length ys) × (eqb (get_or ys i d).place q ≡ true)
    at = let h = position-Some (λ s. eqb s.place q) ys i d (sym is) in (h.0, h.1)

    pub below : i < n
    below = omega (arith, at.0, short)

    pub its_place : (get_or xs i d).place ≡ q
    its_place = ap (λ t. t.place) (sym (get_or-take n xs i d below)) ∙ eqb-true _ _ at.1

    pub its_cost : waits ys q ≡ Some (get_or xs i d).cost
    its_cost = grind (arith, waits_at ys apart i d at.0, its_place, get_or-take n xs i d below)

  -- s waits too, behind the others
  module _ (s : Slot C) (lt : n < length xs) (free : waits ys s.place ≡ None) where
    pub put_apart : Apart (n + 1) (set xs n s)
    put_apart = apart_set (n + 1) n xs s lt (λ j k hj hk nj nk e. w.apart j k (omega arith, omega arith, e)) (λ k h ne z. let lt : k < n = omega arith in absent ys s.place free k (omega (arith, short)) (place_take n xs k lt ∙ z))

    pub put_sets : Sets (waits ys) (held_in (n + 1) (set xs n s)) s.place (Some s.cost)
    put_sets q = ap (λ l. waits l q) (take_more_set xs n s lt) ∙ waits_push ys s q free

  -- s stands in the place of the slot at i
  module _ (i : ℕ) (s : Slot C) (lt : i < n) (same : there xs i ≡ s.place) where
    pub lower_apart : Apart n (set xs i s)
    lower_apart = apart_set n i xs s (omega (arith, w.fits)) (λ j k hj hk _ _ e. w.apart j k (hj, hk, e)) (λ k h ne z. ne (w.apart k i (h, lt, z ∙ sym same)))

    pub lower_sets : Sets (waits ys) (held_in n (set xs i s)) s.place (Some s.cost)
    lower_sets q =
        let e = short in
        let here : there ys i ≡ s.place = place_take n xs i lt ∙ same in
        grind (arith, nat_tests, take-set-lt n xs i s lt, waits_set ys apart i s q (omega arith) (λ k h ne z. ne (apart k i (h, omega arith, z ∙ sym here))), here)

  -- the slot at i goes, and the last one, l, comes in its place
  module _ (m i : ℕ) (l : Slot C) (one : n ≡ m + 1) (lt : i < n) (last : l ≡ get_or xs m l) where
    last_place : there xs m ≡ l.place
    last_place = place_at xs m l (omega (arith, w.fits)) ∙ ap (λ t. t.place) (sym last)

    only_last : (k : ℕ) → k < m → there xs k ≢ l.place
    only_last k h z = let e : k ≡ m = w.apart k m (omega arith, omega arith, z ∙ sym last_place) in omega arith

    pub take_apart : Apart m (set xs i l)
    take_apart = apart_set m i xs l (omega (arith, w.fits)) (λ j k hj hk _ _ e. w.apart j k (omega arith, omega arith, e)) (λ k h _. only_last k h)

    pub take_sets : Sets (waits ys) (held_in m (set xs i l)) (there xs i) None
    take_sets q =
        let zs = take m xs in
        let f : m ≤ length xs = omega (arith, w.fits) in
        let e = length-take-le m xs f in
        let b : Apart (length zs) zs = apart_take m xs f (λ j k h. w.apart j k (omega (arith, h.0), omega (arith, h.1), h.2)) in
        let only : (k : ℕ) → k < length zs → there zs k ≢ l.place = λ k h z. only_last k (omega arith) (sym (place_take m xs k (omega arith)) ∙ z) in
        let none : waits zs l.place ≡ None = waits_none zs l.place only in
        let before : ys ≡ zs ++ l ∷ [] = ap (λ k. take k xs) one ∙ take_more xs m l (omega (arith, w.fits)) ∙ ap (λ t. zs ++ t ∷ []) (sym last) in
        let had : waits ys q ≡ update eqb (waits zs) l.place (Some l.cost) q = ap (λ l. waits l q) before ∙ waits_push zs l q none in
        ⊎_elim
        (λ (z : i ≡ m). grind (arith, nat_tests, take-set-le m xs i l (omega arith), last_place))
        (λ (z : i ≢ m).
        let lt : i < m = omega arith in
        grind (arith, nat_tests, take-set-lt m xs i l lt, place_take m xs i lt, only i (omega arith), waits_set zs b i l q (omega arith) (λ k h _. only k h)))
        (cases_eq i m)
