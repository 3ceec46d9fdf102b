-- Lists: members, no repeats, and the pigeonhole principle. Assumes nothing.
use Rattle.std.proofs.Common.{◌≡◌, ℕ, suc, ◌≤◌, ◌≢◌, List, [], ◌∷◌, length, sym, refl, ap, ◌∙◌, subst, inl, inr, zero-le, arith}
use native.Mathlib.Decide.{ℕ_discrete}
use Rattle.network.specs.Rosters.{Among}
use Rattle.legality.specs.Paths.{Distinct, Last}

-- is x in the list?
pub among? : (x : ℕ) (ys : List ℕ) → Dec (Among x ys)
among? x [] = no (λ h. h)
among? x (y ∷ ys) = join (ℕ_discrete x y) (among? x ys)
  where
    join : Dec (x ≡ y) → Dec (Among x ys) → Dec (Among x (y ∷ ys))
    join (yes e) k = yes (inl e)
    join (no n) (yes h) = yes (inr h)
    join (no n) (no k) = no (λ h. elim h [ inl e ↦ n e | inr i ↦ k i ])

pub among_last : (d : ℕ) (p : List ℕ) → Last d p → Among d p
among_last d [] h = absurd h
among_last d (x ∷ []) h = inl (sym h)
among_last d (x ∷ (y ∷ r)) h = inr (among_last d (y ∷ r) h)

module _ {X : Type 0} where
  -- ys, less one x
  abbrev without : (x : X) (ys : List X) → Among x ys → List X
  without x [] h = []
  without x (y ∷ ys) (inl e) = ys
  without x (y ∷ ys) (inr h) = y ∷ without x ys h

  length_without : (x : X) (ys : List X) (h : Among x ys) → length ys ≡ suc (length (without x ys h))
  length_without x [] h = absurd h
  length_without x (y ∷ ys) (inl e) = refl
  length_without x (y ∷ ys) (inr h) = ap suc (length_without x ys h)

  kept : (x : X) (ys : List X) (h : Among x ys) (z : X) → z ≢ x → Among z ys → Among z (without x ys h)
  kept x [] h z n k = absurd h
  kept x (y ∷ ys) (inl e) z n (inl i) = absurd (n (i ∙ sym e))
  kept x (y ∷ ys) (inl e) z n (inr k) = k
  kept x (y ∷ ys) (inr h) z n (inl i) = inl i
  kept x (y ∷ ys) (inr h) z n (inr k) = inr (kept x ys h z n k)

  -- A list without repeats is no longer than one that has all its members.
  pub pigeonhole : (xs ys : List X) → Distinct xs → ((x : X) → Among x xs → Among x ys) → length xs ≤ length ys
  pigeonhole [] ys apart all = zero-le
  pigeonhole (x ∷ xs) ys apart all =
      let h : Among x ys = all x (inl refl) in
      let below : length xs ≤ length (without x ys h) = pigeonhole xs (without x ys h) apart.1 (λ z k. kept x ys h z (λ e. apart.0 (subst (λ v. Among v xs) e k)) (all z (inr k))) in
      omega (arith, length_without x ys h)
