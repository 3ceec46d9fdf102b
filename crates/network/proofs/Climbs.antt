-- What the first number of a list and the library's test of its order say of a roster. Assumes nothing.
use Rattle.std.specs.List.{IsAllAdjacentAnswer}
use Rattle.std.proofs.Common.{◌≡◌, ℕ, zero, suc, ◌+◌, ◌<◌, ◌≤◌, Bool, true, false, ◌&&◌, ltb, leb, List, [], ◌∷◌, length, get_or, sym, refl, ap, ◌∙◌, arith}
use Rattle.std.proofs.lemmas.Bool.{lt-ltb, le-ltb, le-leb, lt-leb, and_left, and_right}
use Rattle.network.specs.Rosters.{climbs, is_roster}

climbs_tested : (x : ℕ) (xs : List ℕ) (r : Bool) → IsAllAdjacentAnswer (λ a b t. t ≡ ltb a b) (x ∷ xs) r → climbs x xs ≡ r
climbs_tested x [] true h = refl
climbs_tested x (y ∷ ys) true h =
    let next = λ (k : ℕ). let e : suc (k + 1) ≡ suc k + 1 = omega arith in e in
    ap (λ b. b && climbs y ys) (sym (h 0 0 (omega arith))) ∙
    climbs_tested y ys true (λ k d l. h (suc k) d (omega arith) ∙ ap (λ i. ltb (get_or (y ∷ ys) k d) (get_or (x ∷ y ∷ ys) i d)) (sym (next k)))
climbs_tested x [] false h = absurd (omega (arith, h.1))
climbs_tested x (y ∷ ys) false (zero, l, e) = and_left (ltb x y) (climbs y ys) (sym (e 0))
climbs_tested x (y ∷ ys) false (suc k, l, e) =
    let next : suc k + 1 ≡ suc (k + 1) = omega arith in
    and_right (ltb x y) (climbs y ys) (climbs_tested y ys false (k, omega arith, λ d. e d ∙ ap (λ i. ltb (get_or (y ∷ ys) k d) (get_or (x ∷ y ∷ ys) i d)) next))

module _ (most : ℕ) where
  -- a list whose first number is missing or 0
  pub unrostered : (xs : List ℕ) → get_or xs 0 0 ≤ 0 → is_roster most xs ≡ false
  unrostered [] h = refl
  unrostered (x ∷ xs) h = and_right _ _ (and_right (leb (length (x ∷ xs)) most) _ (and_left (ltb 0 x) (climbs x xs) (le-ltb 0 x h)))

  -- .. a list that is too long
  pub overlong : (xs : List ℕ) → most < length xs → is_roster most xs ≡ false
  overlong xs h = and_right (leb 1 (length xs)) _ (and_left (leb (length xs) most) (climbs 0 xs) (lt-leb (length xs) most h))

  -- .. and a list of neither sort
  pub rostered : (xs : List ℕ) {r : Bool} → 0 < get_or xs 0 0 → length xs ≤ most → IsAllAdjacentAnswer (λ a b t. t ≡ ltb a b) xs r → is_roster most xs ≡ r
  rostered [] l h s = absurd (omega (arith, l))
  rostered (x ∷ xs) {r} l h s =
      ap (λ b. b && (leb (length (x ∷ xs)) most && (ltb 0 x && climbs x xs))) (le-leb 1 (length (x ∷ xs)) (omega arith)) ∙
      ap (λ b. b && (ltb 0 x && climbs x xs)) (le-leb (length (x ∷ xs)) most h) ∙
      ap (λ b. b && climbs x xs) (lt-ltb 0 x l) ∙
      climbs_tested x xs r s
