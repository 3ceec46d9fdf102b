-- What waits among slots none of whose places stands twice, and what a write makes of it. Assumes nothing.
use Rattle.std.proofs.Common.{◌≡◌, ℕ, zero, suc, ◌<◌, ◌≤◌, ◌+◌, cond, eqb, ◌≢◌, List, [], ◌∷◌, ◌++◌, length, get_or, take, set, is_some, Some, None, Option, sym, refl, ap, ◌∙◌, subst, ⊎_elim, arith}
use Rattle.std.specs.Map.{update}
use Rattle.std.specs.List.{position, position_from, list_any, Contains}
use Rattle.std.proofs.lemmas.List.{take-map, length-take-le, length-map, get_or-take, get_or-map, map-set, get_or-set_same, get_or-set_other}
use Rattle.std.proofs.lemmas.List.Elements.{Contains-append_right}
use Rattle.std.proofs.lemmas.List.Folds.{list_any_at}
use Rattle.std.proofs.lemmas.Iterator.Adapters.{position_from-zero}
use Rattle.std.proofs.lemmas.Option.{none-some}
use Rattle.std.proofs.lemmas.Bool.{cases_eq, eq-eqb}
use Rattle.std.proofs.lemmas.Bool.Decides.{nat_tests}
use Rattle.waiting.specs.declared.types.Slot.{Slot}
use Rattle.waiting.specs.Slots.{waits, places, Apart}

abbrev pub slot : {C : Type 0} → ℕ → C → Slot C
slot p c = record { place = p; cost = c }

-- the place of the slot at i
abbrev pub there : {C : Type 0} → List (Slot C) → ℕ → ℕ
there ys i = get_or (places ys) i 0

module _ {C : Type 0} where
  pub place_at : (ys : List (Slot C)) (i : ℕ) (d : Slot C) → i < length ys → there ys i ≡ (get_or ys i d).place
  place_at ys i d h = get_or-map (λ t. t.place) ys i d 0 h

  pub same_slot : (s : Slot C) (q : ℕ) (c : C) → s.place ≡ q → s.cost ≡ c → s ≡ slot q c
  same_slot s q c e f = ap (λ p. slot p s.cost) e ∙ ap (slot q) f

  place_set : (ys : List (Slot C)) (i k : ℕ) (s : Slot C) → i < length ys → there (set ys i s) k ≡ cond (eqb k i) s.place (there ys k)
  place_set ys i k s lt =
      let e = length-map ys (λ t. t.place) in
      grind (arith, nat_tests, map-set (λ t. t.place) ys i s, get_or-set_same (places ys) i s.place 0, get_or-set_other (places ys) i k s.place 0)

  pub place_take : (n : ℕ) (xs : List (Slot C)) (i : ℕ) → i < n → there (take n xs) i ≡ there xs i
  place_take n xs i h = ap (λ l. get_or l i 0) (sym (take-map (λ s. s.place) n xs)) ∙ get_or-take n (places xs) i 0 h

  -- the slot s is written at i, and m slots wait then
  pub apart_set : (m i : ℕ) (xs : List (Slot C)) (s : Slot C) → i < length xs → ((j k : ℕ) → j < m → k < m → j ≢ i → k ≢ i → there xs j ≡ there xs k → j ≡ k) → ((k : ℕ) → k < m → k ≢ i → there xs k ≢ s.place) → Apart m (set xs i s)
  apart_set m i xs s lt old new j k h =
      grind (arith, nat_tests, h.0, h.1, h.2, old j k, new j, new k, place_set xs i j s lt, place_set xs i k s lt)

  pub apart_take : (n : ℕ) (xs : List (Slot C)) → n ≤ length xs → Apart n xs → Apart (length (take n xs)) (take n xs)
  apart_take n xs fits a i j h =
      let e = length-take-le n xs fits in
      grind (arith, h.0, h.1, h.2, a i j, place_take n xs i, place_take n xs j)

  apart_rest : (y : Slot C) (ys : List (Slot C)) → Apart (length (y ∷ ys)) (y ∷ ys) → Apart (length ys) ys
  apart_rest y ys a i j h = let e : suc i ≡ suc j = a (suc i) (suc j) (omega (arith, h.0), omega (arith, h.1), h.2) in omega arith

  apart_first : (y : Slot C) (ys : List (Slot C)) → Apart (length (y ∷ ys)) (y ∷ ys) → (k : ℕ) → k < length ys → there ys k ≢ y.place
  apart_first y ys a k h e = let z : 0 ≡ suc k = a 0 (suc k) (omega arith, omega arith, sym e) in omega arith

  -- a place that no slot has does not wait
  pub waits_none : (ys : List (Slot C)) (q : ℕ) → ((k : ℕ) → k < length ys → there ys k ≢ q) → waits ys q ≡ None
  waits_none [] q n = refl
  waits_none (y ∷ ys) q n = grind (arith, nat_tests, n 0, waits_none ys q (λ k h. n (suc k) (omega arith)))

  -- a slot waits, at its cost
  pub waits_at : (ys : List (Slot C)) → Apart (length ys) ys → (i : ℕ) (d : Slot C) → i < length ys → waits ys (get_or ys i d).place ≡ Some (get_or ys i d).cost
  waits_at [] a i d h = absurd (omega arith)
  waits_at (y ∷ ys) a zero d h = grind (arith, nat_tests)
  waits_at (y ∷ ys) a (suc i) d h =
      grind (arith, nat_tests, apart_first y ys a i (omega arith), place_at ys i d (omega arith), waits_at ys (apart_rest y ys a) i d (omega arith))

  -- and nothing else waits
  pub waits_from : (ys : List (Slot C)) (q : ℕ) (c : C) → waits ys q ≡ Some c → Contains ys (slot q c)
  waits_from [] q c e = absurd (none-some c e)
  waits_from (y ∷ ys) q c e =
      ⊎_elim
      (λ same. (0, omega arith, grind (arith, nat_tests)))
      (λ (ne : q ≢ y.place). Contains-append_right (y ∷ []) ys (slot q c) (waits_from ys q c (grind (arith, nat_tests))))
      (cases_eq q y.place)

  -- what waits is f, where f has just what stands among the first n slots
  pub waits_is : (n : ℕ) (xs : List (Slot C)) → n ≤ length xs → Apart n xs →
      (f : ℕ → Option C) → ((q : ℕ) (c : C) → Contains (take n xs) (slot q c) → f q ≡ Some c) → ((q : ℕ) (c : C) → f q ≡ Some c → Contains (take n xs) (slot q c)) →
      (q : ℕ) → waits (take n xs) q ≡ f q
  waits_is n xs fits a f in' out q = both (waits (take n xs) q) (f q) refl refl
    where
      stands : (c : C) → f q ≡ Some c → waits (take n xs) q ≡ Some c
      stands c e =
          let h = out q c e in
          subst (λ s. waits (take n xs) s.place ≡ Some s.cost) h.2 (waits_at (take n xs) (apart_take n xs fits a) h.0 (slot q c) h.1)

      both : (o p : Option C) → waits (take n xs) q ≡ o → f q ≡ p → o ≡ p
      both None None w e = refl
      both None (Some c) w e = sym w ∙ stands c e
      both (Some c) p w e = sym (in' q c (waits_from (take n xs) q c w)) ∙ e

  -- one more slot, and a slot in the place of another
  pub waits_push : (ys : List (Slot C)) (s : Slot C) (q : ℕ) → waits ys s.place ≡ None → waits (ys ++ s ∷ []) q ≡ update eqb (waits ys) s.place (Some s.cost) q
  waits_push [] s q h = grind (arith, nat_tests)
  waits_push (y ∷ ys) s q h = grind (arith, nat_tests, waits_push ys s q)

  pub waits_set : (ys : List (Slot C)) → Apart (length ys) ys → (i : ℕ) (s : Slot C) (q : ℕ) → i < length ys → ((k : ℕ) → k < length ys → k ≢ i → there ys k ≢ s.place) →
      waits (set ys i s) q ≡ update eqb (update eqb (waits ys) (there ys i) None) s.place (Some s.cost) q
  waits_set [] a i s q h n = absurd (omega arith)
  waits_set (y ∷ ys) a zero s q h n = grind (arith, nat_tests, waits_none ys y.place (apart_first y ys a))
  waits_set (y ∷ ys) a (suc i) s q h n =
      grind (arith, nat_tests, apart_first y ys a i (omega arith), n 0 (omega arith) (λ z. omega arith), waits_set ys (apart_rest y ys a) i s q (omega arith) (λ k lt ne. n (suc k) (omega arith) (λ z. ne (omega arith))))

  -- a place waits if some slot has it, and then the search for it finds one
  pub any_waits : (ys : List (Slot C)) (q : ℕ) → list_any (eqb q) (places ys) ≡ is_some (waits ys q)
  any_waits [] q = refl
  any_waits (y ∷ ys) q = grind (arith, nat_tests, any_waits ys q)

  pub absent : (ys : List (Slot C)) (q : ℕ) → waits ys q ≡ None → (k : ℕ) → k < length ys → there ys k ≢ q
  absent ys q e k h z =
      let l = length-map ys (λ s. s.place) in
      grind (arith, any_waits ys q, list_any_at (eqb q) (places ys) k 0 (omega arith) (eq-eqb q (there ys k) (sym z)))

  found_from : (ys : List (Slot C)) (q i : ℕ) → is_some (position_from (λ s. eqb s.place q) i ys) ≡ is_some (waits ys q)
  found_from [] q i = refl
  found_from (y ∷ ys) q i = grind (arith, nat_tests, found_from ys q (i + 1))

  pub found : (ys : List (Slot C)) (q : ℕ) → is_some (position (λ s. eqb s.place q) ys) ≡ is_some (waits ys q)
  found ys q = ap is_some (position_from-zero (λ s. eqb s.place q) ys) ∙ found_from ys q 0
