-- Rosters and the places in them: of two places the later one has the greater AS, so that no AS stands twice. Assumes nothing.
use Rattle.std.proofs.lemmas.Option.{same_Some}
use Rattle.std.proofs.Common.{◌≡◌, ℕ, zero, suc, ◌<◌, true, eqb, ltb, ◌≢◌, ◌⊎◌, List, [], ◌∷◌, length, get_or, Some, None, Option, sym, refl, ap, ◌∙◌, subst, inl, inr, arith}
use Rattle.std.proofs.lemmas.Bool.{and_parts, ltb-true, cases_eq, cases_order, eq-eqb, ne_eqb, cond-true, cond-false}
use Rattle.network.specs.Rosters.{Among, later, place, climbs}
use Rattle.network.proofs.Somes.{none_some}

abbrev pub Rising : List ℕ → Type 0
Rising xs = (i j : ℕ) → i < j → j < length xs → get_or xs i 0 < get_or xs j 0

above : (below : ℕ) (xs : List ℕ) → climbs below xs ≡ true → (i : ℕ) → i < length xs → below < get_or xs i 0
above below [] h i l = omega arith
above below (x ∷ xs) h zero l = ltb-true below x (and_parts (ltb below x) (climbs x xs) h).0
above below (x ∷ xs) h (suc i) l =
    let both = and_parts (ltb below x) (climbs x xs) h in
    let more : x < get_or xs i 0 = above x xs both.1 i (omega arith) in
    omega (arith, ltb-true below x both.0)

pub rising : (below : ℕ) (xs : List ℕ) → climbs below xs ≡ true → Rising xs
rising below [] h i j l k = omega arith
rising below (x ∷ xs) h i zero l k = omega arith
rising below (x ∷ xs) h zero (suc j) l k = above x xs (and_parts (ltb below x) (climbs x xs) h).1 j (omega arith)
rising below (x ∷ xs) h (suc i) (suc j) l k = rising x xs (and_parts (ltb below x) (climbs x xs) h).1 i j (omega arith) (omega arith)

-- an AS and its place
pub record Stands (roster : List ℕ) (a i : ℕ) : Type 0 where
  pub within : i < length roster
  pub is : get_or roster i 0 ≡ a

later_some : (o : Option ℕ) (i : ℕ) → later o ≡ Some i → (j : ℕ) × (o ≡ Some j) × (i ≡ suc j)
later_some None i e = absurd (none_some refl e)
later_some (Some j) i e = (j, refl, sym (same_Some _ _ e))

pub place_stands : (roster : List ℕ) (a i : ℕ) → place roster a ≡ Some i → Stands roster a i
place_stands [] a i e = absurd (none_some refl e)
place_stands (x ∷ xs) a i e = go (λ j. place_stands xs a j) (cases_eq x a)
  where
    go : ((j : ℕ) → place xs a ≡ Some j → Stands xs a j) → (x ≡ a) ⊎ (x ≢ a) → Stands (x ∷ xs) a i
    go more (inl h) =
        let z : 0 ≡ i = same_Some _ _ (sym (cond-true (eqb x a) (Some 0) (later (place xs a)) (eq-eqb x a h)) ∙ e) in
        subst (Stands (x ∷ xs) a) z (record { within = omega arith; is = h })
    go more (inr n) =
        let z = later_some (place xs a) i (sym (cond-false (eqb x a) (Some 0) (later (place xs a)) (ne_eqb x a n)) ∙ e) in
        let s = more z.0 z.1 in
        subst (Stands (x ∷ xs) a) (sym z.2) (record { within = omega (arith, s.within); is = s.is })

pub among_place : (roster : List ℕ) (a : ℕ) → Among a roster → (i : ℕ) × (place roster a ≡ Some i)
among_place [] a h = absurd h
among_place (x ∷ xs) a h = go (λ k. among_place xs a k) h (cases_eq x a)
  where
    go : (Among a xs → (i : ℕ) × (place xs a ≡ Some i)) → (a ≡ x) ⊎ Among a xs → (x ≡ a) ⊎ (x ≢ a) → (i : ℕ) × (place (x ∷ xs) a ≡ Some i)
    go more k (inl e) = (0, cond-true (eqb x a) (Some 0) (later (place xs a)) (eq-eqb x a e))
    go more (inl e) (inr n) = absurd (n (sym e))
    go more (inr k) (inr n) =
        let z = more k in
        (suc z.0, cond-false (eqb x a) (Some 0) (later (place xs a)) (ne_eqb x a n) ∙ ap later z.1)

pub stands_among : (roster : List ℕ) (i : ℕ) → i < length roster → Among (get_or roster i 0) roster
stands_among [] i h = absurd (omega arith)
stands_among (x ∷ xs) zero h = inl refl
stands_among (x ∷ xs) (suc i) h = inr (stands_among xs i (omega arith))

-- no AS stands twice
pub rising_inj : (roster : List ℕ) → Rising roster → (i j : ℕ) → i < length roster → j < length roster → get_or roster i 0 ≡ get_or roster j 0 → i ≡ j
rising_inj roster up i j hi hj e = go (cases_order i j)
  where
    go : (i ≡ j) ⊎ ((i < j) ⊎ (j < i)) → i ≡ j
    go (inl h) = h
    go (inr (inl l)) = absurd (omega (arith, up i j l hj))
    go (inr (inr l)) = absurd (omega (arith, up j i l hi))

-- the place of the AS at a place
pub place_at : (roster : List ℕ) → Rising roster → (i : ℕ) → i < length roster → place roster (get_or roster i 0) ≡ Some i
place_at roster up i h =
    let p = among_place roster (get_or roster i 0) (stands_among roster i h) in
    let s = place_stands roster (get_or roster i 0) p.0 p.1 in
    p.1 ∙ ap Some (rising_inj roster up p.0 i s.within h s.is)
