-- How many entries a table has, and what that says of a cost. Assumes nothing.
use Rattle.std.proofs.Common.{◌≡◌, ℕ, suc, ◌+◌, ◌*◌, ◌<◌, ◌≤◌, List, [], ◌∷◌, length, Some, None, Option, sym, refl, ap, subst, inl, inr, arith}
use Rattle.std.specs.List.{AllByRecursion}
use Rattle.network.specs.declared.types.Figures.{Figures}
use Rattle.network.specs.Limits.{Limits}
use Rattle.network.specs.Rosters.{Among}
use Rattle.measure.specs.Measures.{Measure, Laws, AtMost, Within, total}
use Rattle.legality.specs.declared.types.Class.{Class}
use Rattle.legality.specs.declared.types.Class.TheVariants.{Home, Outside}
use Rattle.legality.specs.Tables.{Table}
use Rattle.legality.proofs.Orders.{less_at_most, at_most_trans}
use Rattle.labels.specs.Labels.{one, size, Reach, Elsewhere}
use Rattle.labels.proofs.Pairs.{everywhere}

one_le : {X : Type 0} (o : Option X) → one o ≤ 1
one_le None = omega arith
one_le (Some x) = omega arith

module _ {C : Type 0} where
  pub size_bound : (t : Table C) (l : List ℕ) → size t l ≤ 2 * length l
  size_bound t [] = omega arith
  size_bound t (a ∷ l) = omega (arith, one_le (t a Home), one_le (t a Outside), size_bound t l)

  pub size_same : (t s : Table C) → ((a : ℕ) (e : Class) → t a e ≡ s a e) → (l : List ℕ) → size t l ≡ size s l
  size_same t s same [] = refl
  size_same t s same (a ∷ l) = omega (arith, ap one (same a Home), ap one (same a Outside), size_same t s same l)

  module _ (p q : Table C) (b : ℕ) (e' : Class) (x : ℕ × C) (none : p b e' ≡ None) (some : q b e' ≡ Some x) (others : Elsewhere p q b e') where
    grown : one (p b e') < one (q b e')
    grown = omega (arith, ap one none, ap one some)

    one_mono : (a : ℕ) (e : Class) → one (p a e) ≤ one (q a e)
    one_mono = everywhere (λ a e. one (p a e) ≤ one (q a e)) b e' (omega (arith, grown)) (λ a e n. omega (arith, ap one (others a e n)))

    size_mono : (l : List ℕ) → size p l ≤ size q l
    size_mono [] = omega arith
    size_mono (a ∷ l) = omega (arith, one_mono a Home, one_mono a Outside, size_mono l)

    first : (a : ℕ) (e : Class) → b ≡ a → e' ≡ e → (one (p a Home) + one (p a Outside)) < (one (q a Home) + one (q a Outside))
    first a Home i j = omega (arith, one_mono a Outside, subst (λ v. one (p v Home) < one (q v Home)) i (subst (λ v. one (p b v) < one (q b v)) j grown))
    first a Outside i j = omega (arith, one_mono a Home, subst (λ v. one (p v Outside) < one (q v Outside)) i (subst (λ v. one (p b v) < one (q b v)) j grown))

    pub size_grows : (l : List ℕ) → Among b l → size p l < size q l
    size_grows [] h = absurd h
    size_grows (a ∷ l) (inl i) = omega (arith, first a e' i refl, size_mono l)
    size_grows (a ∷ l) (inr h) = omega (arith, one_mono a Home, one_mono a Outside, size_grows l h)

module _ {C : Type 0} {m : Measure C} (laws : Laws m) where
  pub reach_within : (k : ℕ) (c : C) → k ≤ 1024 → Reach m k c → Within m c
  reach_within k c h r = let s = r.short in subst (Within m) (sym r.costs) (laws.range r.figures r.limits (omega arith))

  total_start : (fs : List Figures) → AllByRecursion Limits fs → length fs ≤ 1024 → AtMost m m.start (total m fs)
  total_start [] h n = laws.irreflexive m.start
  total_start (f ∷ fs) h n =
      let short : length fs ≤ 1024 = omega arith in
      at_most_trans laws m.start (total m fs) (m.extend (total m fs) f) (total_start fs h.1 short)
      (less_at_most laws (total m fs) (m.extend (total m fs) f) (laws.strict (total m fs) f (laws.range fs h.1 short) h.0))

  -- nothing is cheaper than the start
  pub reach_start : (k : ℕ) (c : C) → k ≤ 1024 → Reach m k c → AtMost m m.start c
  reach_start k c h r = let s = r.short in subst (AtMost m m.start) (sym r.costs) (total_start r.figures r.limits (omega arith))

  pub reach_extend : (k : ℕ) (c : C) (f : Figures) → Limits f → Reach m k c → Reach m (suc k) (m.extend c f)
  reach_extend k c f in_limits r =
      let s = r.short in
      record { figures = f ∷ r.figures; limits = (in_limits, r.limits); short = omega arith; costs = ap (λ v. m.extend v f) r.costs }

  pub reach_more : (j k : ℕ) (c : C) → j ≤ k → Reach m j c → Reach m k c
  reach_more j k c h r = let s = r.short in record { figures = r.figures; limits = r.limits; short = omega arith; costs = r.costs }

  pub reach_none : (k : ℕ) → Reach m k m.start
  reach_none k = record { figures = []; limits = tt; short = omega arith; costs = refl }
