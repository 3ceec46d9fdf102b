-- What the laws of a measure give of its order. Assumes nothing.
use Rattle.std.proofs.Common.{◌≡◌, Bool, true, false, sym, ◌∙◌, subst, inl, inr, true≢false}
use Rattle.std.proofs.lemmas.Bool.{cases_Bool}
use Rattle.measure.specs.Measures.{Measure, Laws, AtMost}

pub not_both : {b : Bool} → b ≡ true → b ≡ false → ⊥
not_both p q = true≢false (sym p ∙ q)

module _ {C : Type 0} {m : Measure C} (laws : Laws m) where
  pub less_at_most : (p q : C) → m.less p q ≡ true → AtMost m p q
  less_at_most p q l =
      elim (cases_Bool (m.less q p)) [
        | inl k ↦ absurd (not_both (laws.transitive p q p l k) (laws.irreflexive p))
        | inr k ↦ k
      ]

  pub at_most_trans : (p q r : C) → AtMost m p q → AtMost m q r → AtMost m p r
  at_most_trans p q r pq qr = elim (cases_Bool (m.less r p)) [ inl rp ↦ absurd (broken rp) | inr k ↦ k ]
    where
      broken : m.less r p ≡ true → ⊥
      broken rp =
          elim (cases_Bool (m.less p q)) [
            | inl k ↦ not_both (laws.transitive r p q rp k) qr
            | inr k ↦ not_both (subst (λ v. m.less r v ≡ true) (laws.antisymmetric p q pq k) rp) qr
          ]

  pub at_most_less : (p q r : C) → AtMost m p q → m.less q r ≡ true → m.less p r ≡ true
  at_most_less p q r pq qr = elim (cases_Bool (m.less p r)) [ inl k ↦ k | inr k ↦ absurd (not_both qr (at_most_trans r p q k pq)) ]
