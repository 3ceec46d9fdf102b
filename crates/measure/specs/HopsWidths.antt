-- Hops and then width keep the laws of a measure. Assumes nothing.
use Rattle.std.proofs.Common.{◌≡◌, ℕ, ◌+◌, ◌<◌, ◌≤◌, min, Bool, true, false, ◌&&◌, ◌||◌, eqb, ltb, leb, ◌⊎◌, List, [], ◌∷◌, length, sym, refl, ap, ◌∙◌, inl, inr, ⊎_elim, arith}
use Rattle.std.specs.List.{AllByRecursion}
use Rattle.std.proofs.lemmas.Bool.{ltb-true, ltb-false, le-leb, and_from, eqb-true, eq-eqb, cases_Bool, both_ways}
use Rattle.network.specs.declared.types.Figures.{Figures}
use Rattle.network.specs.Limits.{Limits}
use Rattle.measure.specs.declared.hops_width.HopsWidthCost.{HopsWidthCost}
use Rattle.measure.specs.Measures.{Laws, total}
use Rattle.measure.specs.HopsWidth.{hops_cost, hops_width}

-- the order on numbers
abbrev Sooner : ℕ → ℕ → ℕ → ℕ → Type 0
Sooner h w k v = (h < k) ⊎ ((h ≡ k) × (v < w))

abbrev test : ℕ → ℕ → ℕ → ℕ → Bool
test h w k v = ltb h k || (eqb h k && ltb v w)

or_true : (a b c : Bool) → (a || (b && c)) ≡ true → (a ≡ true) ⊎ ((b ≡ true) × (c ≡ true))
or_true true b c e = inl refl
or_true false true c e = inr (refl, e)
or_true false false c e = absurd (both_ways false refl e)

or_false : (a b c : Bool) → (a || (b && c)) ≡ false → (a ≡ false) × (b ≡ true → c ≡ false)
or_false true b c e = absurd (both_ways true e refl)
or_false false true c e = (refl, λ z. e)
or_false false false c e = (refl, λ z. absurd (both_ways false refl z))

sooner : (h w k v : ℕ) → test h w k v ≡ true → Sooner h w k v
sooner h w k v e =
    ⊎_elim (λ z. inl (ltb-true h k z)) (λ z. inr (eqb-true h k z.0, ltb-true v w z.1)) (or_true (ltb h k) (eqb h k) (ltb v w) e)

not_sooner : (h w k v : ℕ) → test h w k v ≡ false → (k ≤ h) × (h ≡ k → w ≤ v)
not_sooner h w k v e =
    let z = or_false (ltb h k) (eqb h k) (ltb v w) e in
    (ltb-false h k z.0, λ y. ltb-false v w (z.1 (eq-eqb h k y)))

sooner_true : (h w k v : ℕ) → Sooner h w k v → test h w k v ≡ true
sooner_true h w k v s =
    ⊎_elim (λ z. z) (λ z. let n = not_sooner h w k v z in ⊎_elim (λ (y : h < k). absurd (omega (arith, n.0))) (λ (y : (h ≡ k) × (v < w)). absurd (omega (arith, n.1 y.0, y.1))) s) (cases_Bool (test h w k v))

not_sooner_false : (h w k v : ℕ) → (Sooner h w k v → ⊥) → test h w k v ≡ false
not_sooner_false h w k v n = ⊎_elim (λ z. absurd (n (sooner h w k v z))) (λ z. z) (cases_Bool (test h w k v))

same_cost : (p q : HopsWidthCost) → p.hops ≡ q.hops → p.width ≡ q.width → p ≡ q
same_cost p q e f = ap (λ h. hops_cost h p.width) e ∙ ap (hops_cost q.hops) f

order : (h k : ℕ) → (h < k) ⊎ (k ≤ h)
order h k = grind arith

hops_range : (fs : List Figures) → (total hops_width fs).hops ≡ length fs
hops_range [] = refl
hops_range (f ∷ fs) = omega (arith, hops_range fs)

width_range : (fs : List Figures) → AllByRecursion Limits fs → (1 ≤ (total hops_width fs).width) × ((total hops_width fs).width ≤ 1000000)
width_range [] h = (omega arith, omega arith)
width_range (f ∷ fs) h =
    let more = width_range fs h.1 in
    let low = h.0.width_low in
    (omega (arith, more.0), omega (arith, more.1))

in_range : (c : HopsWidthCost) → c.hops ≤ 1024 → 1 ≤ c.width → c.width ≤ 1000000 → hops_width.within c ≡ true
in_range c h l u =
    and_from (leb c.hops 1024) (leb 1 c.width && leb c.width 1000000) (le-leb c.hops 1024 h) (and_from (leb 1 c.width) (leb c.width 1000000) (le-leb 1 c.width l) (le-leb c.width 1000000 u))

pub hops_width_laws : Laws hops_width
hops_width_laws = record {
  irreflexive = λ p. not_sooner_false p.hops p.width p.hops p.width (λ s. ⊎_elim (λ z. omega arith) (λ z. omega (arith, z.1)) s);
  transitive = λ p q r h k.
      sooner_true p.hops p.width r.hops r.width
      (⊎_elim
      (λ (x : p.hops < q.hops). ⊎_elim (λ (y : q.hops < r.hops). inl (omega arith)) (λ (y : (q.hops ≡ r.hops) × (r.width < q.width)). inl (omega (arith, y.0))) (sooner q.hops q.width r.hops r.width k))
      (λ (x : (p.hops ≡ q.hops) × (q.width < p.width)). ⊎_elim (λ (y : q.hops < r.hops). inl (omega (arith, x.0))) (λ (y : (q.hops ≡ r.hops) × (r.width < q.width)). inr (x.0 ∙ y.0, omega (arith, x.1, y.1))) (sooner q.hops q.width r.hops r.width k))
      (sooner p.hops p.width q.hops q.width h));
  antisymmetric = λ p q h k.
      let a = not_sooner q.hops q.width p.hops p.width h in
      let b = not_sooner p.hops p.width q.hops q.width k in
      let e : p.hops ≡ q.hops = omega (arith, a.0, b.0) in
      same_cost p q e (omega (arith, a.1 (sym e), b.1 e));
  monotone = λ p q f i j n h.
      let a = not_sooner q.hops q.width p.hops p.width h in
      not_sooner_false (q.hops + 1) (min q.width f.width) (p.hops + 1) (min p.width f.width)
      (λ s. ⊎_elim (λ (z : q.hops + 1 < p.hops + 1). omega (arith, a.0)) (λ (z : (q.hops + 1 ≡ p.hops + 1) × (min p.width f.width < min q.width f.width)). let e : q.hops ≡ p.hops = omega (arith, z.0) in omega (arith, a.1 e, z.1)) s);
  strict = λ p f i n. sooner_true p.hops p.width (p.hops + 1) (min p.width f.width) (inl (omega arith));
  range = λ fs h n. in_range (total hops_width fs) (omega (arith, hops_range fs)) (width_range fs h).0 (width_range fs h).1;
}
