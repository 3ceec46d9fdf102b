-- What an offer makes of a best entry. Assumes nothing.
use Rattle.std.proofs.Common.{◌≡◌, ℕ, ◌≤◌, true, false, ◌⊎◌, Option, sym, refl, ◌∙◌, subst, inl, inr, ⊎_elim, arith}
use Rattle.std.proofs.lemmas.Bool.{cases_Bool}
use Rattle.network.proofs.Somes.{none_some, same_pair}
use Rattle.measure.specs.Measures.{Measure, Laws, AtMost}
use Rattle.legality.proofs.Orders.{less_at_most, at_most_trans, not_both}
use Rattle.labels.specs.Labels.{Best, Outcome}

-- O, and the offer c of b
abbrev pub With : {C : Type 0} → (ℕ → C → Type 0) → ℕ → C → ℕ → C → Type 0
With O b c x k = O x k ⊎ ((x ≡ b) × (k ≡ c))

module _ {C : Type 0} {m : Measure C} (laws : Laws m) where
  pub less_most : (p q r : C) → m.less p q ≡ true → AtMost m q r → m.less p r ≡ true
  less_most p q r l h = elim (cases_Bool (m.less p r)) [ inl k ↦ k | inr k ↦ absurd (not_both l (at_most_trans laws q r p h k)) ]

  pub best_same : (O P : ℕ → C → Type 0) → ((x : ℕ) (k : C) → O x k → P x k) → ((x : ℕ) (k : C) → P x k → O x k) → (o : Option (ℕ × C)) → Best m O o → Best m P o
  best_same O P there back o (Best.blank p none) = Best.blank p (λ x k h. none x k (back x k h))
  best_same O P there back o (Best.filled b c p by least first) =
      Best.filled b c p (there b c by) (λ x k h. least x k (back x k h)) (λ x h. first x (back x c h))

  module _ (O : ℕ → C → Type 0) (b : ℕ) (c : C) where
    pub best_offer : (old new : Option (ℕ × C)) (w w' : Option C) → Best m O old → Outcome m old w b c new w' → Best m (With O b c) new
    best_offer old new w w' (Best.blank p none) (Outcome.fresh q r s) =
        Best.filled b c r (inr (refl, refl))
        (λ x k h. ⊎_elim (λ o. absurd (none x k o)) (λ i. subst (AtMost m c) (sym i.1) (laws.irreflexive c)) h)
        (λ x h. ⊎_elim (λ o. absurd (none x c o)) (λ i. omega (arith, i.0)) h)
    best_offer old new w w' (Best.blank p none) (Outcome.lower x v q l r s) = absurd (none_some p q)
    best_offer old new w w' (Best.blank p none) (Outcome.dearer x v q l r s) = absurd (none_some p q)
    best_offer old new w w' (Best.blank p none) (Outcome.tied x y q r l k i s) = absurd (none_some p q)
    best_offer old new w w' (Best.filled b₀ c₀ p by least first) (Outcome.fresh q r s) = absurd (none_some q p)
    best_offer old new w w' (Best.filled b₀ c₀ p by least first) (Outcome.lower x v q l r s) =
        let e : v ≡ c₀ = (same_pair q p).1 in
        let lower : m.less c c₀ ≡ true = subst (λ z. m.less c z ≡ true) e l in
        let all : (x : ℕ) (k : C) → O x k → m.less c k ≡ true = λ x k h. less_most c c₀ k lower (least x k h) in
        Best.filled b c r (inr (refl, refl))
        (λ x k h. ⊎_elim (λ o. less_at_most laws c k (all x k o)) (λ i. subst (AtMost m c) (sym i.1) (laws.irreflexive c)) h)
        (λ x h. ⊎_elim (λ o. absurd (not_both (all x c o) (laws.irreflexive c))) (λ i. omega (arith, i.0)) h)
    best_offer old new w w' (Best.filled b₀ c₀ p by least first) (Outcome.dearer x v q l r s) =
        let e = same_pair p q in
        let up : m.less c₀ c ≡ true = subst (λ z. m.less z c ≡ true) (sym e.1) l in
        Best.filled b₀ c₀ (r ∙ sym q ∙ p) (inl by)
        (λ x k h. ⊎_elim (λ o. least x k o) (λ i. subst (AtMost m c₀) (sym i.1) (less_at_most laws c₀ c up)) h)
        (λ x h. ⊎_elim (λ o. first x o) (λ i. absurd (not_both up (subst (λ z. m.less c₀ z ≡ false) i.1 (laws.irreflexive c₀)))) h)
    best_offer old new w w' (Best.filled b₀ c₀ p by least first) (Outcome.tied x y q r l k i s) =
        let e = same_pair p q in
        let low : (z : ℕ) (v : C) → O z v → AtMost m c v = λ z v h. subst (λ u. AtMost m u v) e.1 (least z v h) in
        let here : (z : ℕ) → O z c → x ≤ z = λ z h. subst (λ u. u ≤ z) e.0 (first z (subst (O z) (sym e.1) h)) in
        Best.filled y c r
        (⊎_elim (λ (j : y ≡ b). inr (j, refl)) (λ (j : y ≡ x). inl (subst (λ u. O u c) (e.0 ∙ sym j) (subst (O b₀) e.1 by))) i)
        (λ z v h. ⊎_elim (λ o. low z v o) (λ j. subst (AtMost m c) (sym j.1) (laws.irreflexive c)) h)
        (λ z h. ⊎_elim (λ o. omega (arith, here z o)) (λ j. omega (arith, j.0)) h)
