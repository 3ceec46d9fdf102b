-- What a path costs, how long it is, and that its cost is in range. Assumes nothing.
use Rattle.std.proofs.Common.{◌≡◌, ℕ, suc, ◌≤◌, true, List, [], ◌∷◌, length, Some, sym, refl, ap, ◌∙◌, subst, inl, inr, arith}
use Rattle.std.specs.List.{AllByRecursion}
use Rattle.network.specs.declared.types.Figures.{Figures}
use Rattle.network.specs.declared.types.Relation.{Relation}
use Rattle.network.specs.Limits.{Limits}
use Rattle.network.specs.Rosters.{Among}
use Rattle.measure.specs.Measures.{Measure, Laws, Within, total}
use Rattle.legality.specs.Networks.{Network, Sound}
use Rattle.legality.specs.Paths.{Chain, Path, over, cost}
use Rattle.legality.proofs.Lists.{pigeonhole}

module _ (net : Network) where
  pub chain_roster : (p : List ℕ) → Chain net p → (x : ℕ) → Among x p → Among x net.roster
  chain_roster [] k x h = absurd k
  chain_roster (a ∷ []) k x (inl e) = subst (λ v. Among v net.roster) (sym e) k
  chain_roster (a ∷ []) k x (inr h) = absurd h
  chain_roster (a ∷ (b ∷ r)) k x (inl e) = subst (λ v. Among v net.roster) (sym e) k.0
  chain_roster (a ∷ (b ∷ r)) k x (inr h) = chain_roster (b ∷ r) k.2 x h

  -- the figures of a path's links
  abbrev pub figures : (p : List ℕ) → Chain net p → List Figures
  figures [] k = []
  figures (a ∷ []) k = []
  figures (a ∷ (b ∷ r)) k = k.1.1 ∷ figures (b ∷ r) k.2

  pub length_figures : (p : List ℕ) (k : Chain net p) → suc (length (figures p k)) ≡ length p
  length_figures [] k = absurd k
  length_figures (a ∷ []) k = refl
  length_figures (a ∷ (b ∷ r)) k = ap suc (length_figures (b ∷ r) k.2)

  -- A path has no more ASes than the network.
  pub path_length : (p : List ℕ) → Path net p → length p ≤ length net.roster
  path_length p h = pigeonhole p net.roster h.distinct (chain_roster p h.chain)

module _ {C : Type 0} (m : Measure C) (net : Network) where
  -- a path of two ASes or more
  pub cost_step : (a b : ℕ) (r : List ℕ) (w : Relation) (f : Figures) → net.step a b ≡ Some (w, f) → cost m net (a ∷ (b ∷ r)) ≡ m.extend (cost m net (b ∷ r)) f
  cost_step a b r w f p = ap (over m (cost m net (b ∷ r))) p

  pub cost_total : (p : List ℕ) (k : Chain net p) → cost m net p ≡ total m (figures net p k)
  cost_total [] k = absurd k
  cost_total (a ∷ []) k = refl
  cost_total (a ∷ (b ∷ r)) k =
      cost_step a b r k.1.0 k.1.1 k.1.2 ∙ ap (λ c. m.extend c k.1.1) (cost_total (b ∷ r) k.2)

module _ {net : Network} (sound : Sound net) where
  pub limits_figures : (p : List ℕ) (k : Chain net p) → AllByRecursion Limits (figures net p k)
  limits_figures [] k = tt
  limits_figures (a ∷ []) k = tt
  limits_figures (a ∷ (b ∷ r)) k = (sound.limits a b k.1.0 k.1.1 k.1.2, limits_figures (b ∷ r) k.2)

module _ {C : Type 0} {m : Measure C} {net : Network} (laws : Laws m) (sound : Sound net) where
  pub path_within : (p : List ℕ) → Path net p → Within m (cost m net p)
  path_within p h =
      let k = h.chain in
      let short : length (figures net p k) ≤ 1024 = omega (arith, length_figures net p k, path_length net p h, sound.few) in
      subst (Within m) (sym (cost_total m net p k)) (laws.range (figures net p k) (limits_figures sound p k) short)

  -- A step more costs more.
  pub cost_rises : (a b : ℕ) (r : List ℕ) (w : Relation) (f : Figures) → net.step a b ≡ Some (w, f) → Path net (b ∷ r) →
      m.less (cost m net (b ∷ r)) (cost m net (a ∷ (b ∷ r))) ≡ true
  cost_rises a b r w f p h =
      subst (λ c. m.less (cost m net (b ∷ r)) c ≡ true) (sym (cost_step m net a b r w f p))
      (laws.strict (cost m net (b ∷ r)) f (path_within (b ∷ r) h) (sound.limits a b w f p))
