-- How many entries of a table are cheaper than a cost: what falls along a walk. Assumes nothing.
use Rattle.std.proofs.Common.{◌≡◌, ℕ, ◌+◌, ◌<◌, ◌≤◌, true, cond, List, [], ◌∷◌, Some, None, Option, subst, inl, inr, arith}
use Rattle.std.proofs.lemmas.Bool.{cases_Bool}
use Rattle.network.specs.Rosters.{Among}
use Rattle.measure.specs.Measures.{Measure, Laws}
use Rattle.legality.specs.declared.types.Class.{Class}
use Rattle.legality.specs.declared.types.Class.TheVariants.{Home, Outside}
use Rattle.legality.specs.Tables.{Table}

-- 1 for an entry that is cheaper than c
abbrev pub cheaper : {C : Type 0} → Measure C → C → Option (ℕ × C) → ℕ
cheaper m c (Some x) = cond (m.less x.1 c) 1 0
cheaper m c None = 0

abbrev pub rank : {C : Type 0} → Measure C → Table C → C → List ℕ → ℕ
rank m t c [] = 0
rank m t c (a ∷ l) = cheaper m c (t a Home) + (cheaper m c (t a Outside) + rank m t c l)

module _ {C : Type 0} {m : Measure C} (laws : Laws m) (t : Table C) (k c : C) (lower : m.less k c ≡ true) where
  cheaper_mono : (o : Option (ℕ × C)) → cheaper m k o ≤ cheaper m c o
  cheaper_mono (Some x) =
      elim (cases_Bool (m.less x.1 k)) [
        | inl h ↦ rw (h, laws.transitive x.1 k c h lower) (omega arith)
        | inr h ↦ rw h (omega arith)
      ]
  cheaper_mono None = omega arith

  cheaper_strict : (o : Option (ℕ × C)) (x : ℕ) → o ≡ Some (x, k) → cheaper m k o < cheaper m c o
  cheaper_strict o x p = rw (p, laws.irreflexive k, lower) (omega arith)

  rank_mono : (l : List ℕ) → rank m t k l ≤ rank m t c l
  rank_mono [] = omega arith
  rank_mono (a ∷ l) = omega (arith, cheaper_mono (t a Home), cheaper_mono (t a Outside), rank_mono l)

  pub rank_falls : (l : List ℕ) (b : ℕ) (e : Class) (x : ℕ) → Among b l → t b e ≡ Some (x, k) → rank m t k l < rank m t c l
  rank_falls [] b e x h p = absurd h
  rank_falls (a ∷ l) b Home x (inl i) p =
      omega (arith, cheaper_strict (t a Home) x (subst (λ v. t v Home ≡ Some (x, k)) i p), cheaper_mono (t a Outside), rank_mono l)
  rank_falls (a ∷ l) b Outside x (inl i) p =
      omega (arith, cheaper_mono (t a Home), cheaper_strict (t a Outside) x (subst (λ v. t v Outside ≡ Some (x, k)) i p), rank_mono l)
  rank_falls (a ∷ l) b e x (inr h) p = omega (arith, cheaper_mono (t a Home), cheaper_mono (t a Outside), rank_falls l b e x h p)
