-- A table of shortest paths is right for each entry's neighbours, and there is one such table. Assumes nothing.
use Rattle.std.proofs.Common.{◌≡◌, ℕ, ◌≤◌, true, ◌≢◌, ◌⊎◌, List, [], ◌∷◌, Some, sym, ap, ◌∙◌, subst, subst₂, inl, inr, arith}
use native.Mathlib.Decide.{ℕ_discrete}
use Rattle.network.specs.Rosters.{Among}
use Rattle.network.proofs.Somes.{same_pair}
use Rattle.measure.specs.Measures.{Measure, Laws, AtMost, Within}
use Rattle.legality.specs.declared.types.Class.{Class}
use Rattle.legality.specs.Networks.{Network, Sound}
use Rattle.legality.specs.Paths.{Route, Second, cost}
use Rattle.legality.specs.Tables.{Table, Offers, Chosen, LocalAt, Local, Shortest, GlobalAt, Global}
use Rattle.legality.proofs.Lists.{among?}
use Rattle.legality.proofs.Orders.{not_both, less_at_most, at_most_trans, at_most_less}
use Rattle.legality.proofs.Costs.{path_within}
use Rattle.legality.proofs.Steps.{stay, part, prepend, suffix, covers_next, covers_route}
use Rattle.legality.proofs.Entries.{shortest_at}
use Rattle.legality.proofs.Offers.{Filled, offer_of, offer_dearer}

module _ {C : Type 0} {m : Measure C} {net : Network} (laws : Laws m) (sound : Sound net) (t : Table C) (d : ℕ) (right : Global m net t d) where
  -- An entry has a path that costs what it says ..
  path_of : (b : ℕ) (e : Class) (x : ℕ) (k : C) → Among b net.roster → t b e ≡ Some (x, k) → (q : List ℕ) × Route net e b d q × (cost m net q ≡ k)
  path_of b e x k near p = go (ℕ_discrete b d)
    where
      go : Dec (b ≡ d) → (q : List ℕ) × Route net e b d q × (cost m net q ≡ k)
      go (yes i) = (b ∷ [], stay net e b d near i, (same_pair (subst (λ v. t v e ≡ Some (d, m.start)) (sym i) (right.arrived e)) p).1)
      go (no away) = let best = shortest_at (right.elsewhere b near away e) p in (best.path, best.route, best.costs)

  -- .. and a path has an entry that costs no more.
  entry_of : (q : List ℕ) (e : Class) (b : ℕ) → Route net e b d q → Filled m t b e (cost m net q)
  entry_of [] e b h = absurd h.first
  entry_of (x ∷ []) e b h =
      record {
        next = d;
        value = m.start;
        holds = subst (λ v. t v e ≡ Some (d, m.start)) (sym h.last ∙ h.first) (right.arrived e);
        within = path_within laws sound (x ∷ []) h.legal.path;
        cheap = laws.irreflexive m.start;
      }
  entry_of (x ∷ (y ∷ r)) e b h =
      let p = part sound e d b x y r h in
      at (right.elsewhere b (subst (λ v. Among v net.roster) h.first p.near) (subst (λ v. v ≢ d) h.first p.away) e)
    where
      at : GlobalAt m net t d b e → Filled m t b e (cost m net (x ∷ (y ∷ r)))
      at (GlobalAt.blank q none) = absurd (none (x ∷ (y ∷ r)) h)
      at (GlobalAt.filled z c q best) =
          record {
            next = z;
            value = c;
            holds = q;
            within = subst (Within m) best.costs (path_within laws sound best.path best.route.legal.path);
            cheap = best.least (x ∷ (y ∷ r)) h;
          }

  -- what an offer leads to: a path by the AS that makes it, of just that cost, or else a cheaper path
  record Led (a : ℕ) (e : Class) (b : ℕ) (c : C) : Type 0 where
    path : List ℕ
    route : Route net e a d path
    costs : (Second b path × (cost m net path ≡ c)) ⊎ (m.less (cost m net path) c ≡ true)

  led : (a : ℕ) (e : Class) (b : ℕ) (c : C) → Offers m net t a e b c → Led a e b c
  led a e b c o = go (among? a q)
    where
      found : (q : List ℕ) × Route net o.class b d q × (cost m net q ≡ o.base)
      found = path_of b o.class o.next o.base (sound.far_end a b o.relation o.figures o.linked) o.entry

      q : List ℕ
      q = found.0

      go : Dec (Among a q) → Led a e b c
      go (yes i) =
          let s = suffix laws sound q o.class b d a found.1 i in
          let low : AtMost m (cost m net s.0) o.base = subst (AtMost m (cost m net s.0)) found.2 s.2 in
          record {
            path = s.0;
            route = covers_route net e o.class (covers_next e o.relation o.class o.permitted) a d s.0 s.1;
            costs = inr (at_most_less laws (cost m net s.0) o.base c low (offer_dearer laws sound t a e b c o));
          }
      go (no absent) =
          let whole = prepend m sound a b d e o.class o.relation o.figures o.linked o.permitted q found.1.first found.1 absent in
          record {
            path = a ∷ q;
            route = whole.0;
            costs = inl (whole.1, whole.2 ∙ ap (λ v. m.extend v o.figures) found.2 ∙ sym o.worth);
          }

  module _ (a : ℕ) (e : Class) (b : ℕ) (c : C) (best : Shortest m net d a e b c) where
    least_offer : (b' : ℕ) (c' : C) → Offers m net t a e b' c' → AtMost m c c'
    least_offer b' c' o =
        let l = led a e b' c' o in
        elim l.costs [
          | inl k ↦ subst (AtMost m c) k.1 (best.least l.path l.route)
          | inr k ↦ at_most_trans laws c (cost m net l.path) c' (best.least l.path l.route) (less_at_most laws (cost m net l.path) c' k)
        ]

    smallest_offer : (b' : ℕ) → Offers m net t a e b' c → b ≤ b'
    smallest_offer b' o =
        let l = led a e b' c o in
        elim l.costs [
          | inl k ↦ best.smallest l.path l.route k.1 b' k.0
          | inr k ↦ absurd (not_both k (best.least l.path l.route))
        ]

    offered : (q : List ℕ) → Route net e a d q → Second b q → cost m net q ≡ c → Offers m net t a e b c
    offered [] h i costs = absurd i
    offered (x ∷ []) h i costs = absurd i
    offered (x ∷ (y ∷ r)) h i costs =
        let p = part sound e d a x y r h in
        let o = offer_of laws sound t e d x y r p (entry_of (y ∷ r) p.class y p.rest) in
        let offer : Offers m net t a e b o.0 = subst₂ (λ v w. Offers m net t v e w o.0) h.first i o.1 in
        let same : o.0 ≡ c = laws.antisymmetric o.0 c (subst (AtMost m o.0) costs o.2) (least_offer b o.0 offer) in
        subst (Offers m net t a e b) same offer

    chosen : Chosen m net t a e b c
    chosen =
        record {
          within = subst (Within m) best.costs (path_within laws sound best.path best.route.legal.path);
          offered = offered best.path best.route best.second best.costs;
          least = least_offer;
          smallest = smallest_offer;
        }

  pub global_is_local : Local m net t d
  global_is_local = record { arrived = right.arrived; elsewhere = λ a near away e. at a e (right.elsewhere a near away e) }
    where
      at : (a : ℕ) (e : Class) → GlobalAt m net t d a e → LocalAt m net t a e
      at a e (GlobalAt.blank p none) = LocalAt.blank p (λ b c o. let l = led a e b c o in none l.path l.route)
      at a e (GlobalAt.filled b c p best) = LocalAt.filled b c p (chosen a e b c best)

-- Two tables of shortest paths to d are the same.
module _ {C : Type 0} {m : Measure C} {net : Network} (laws : Laws m) (t t' : Table C) (d : ℕ) (one : Global m net t d) (other : Global m net t' d) where
  same_at : (a : ℕ) (e : Class) → GlobalAt m net t d a e → GlobalAt m net t' d a e → t a e ≡ t' a e
  same_at a e (GlobalAt.blank p none) (GlobalAt.blank p' none') = p ∙ sym p'
  same_at a e (GlobalAt.blank p none) (GlobalAt.filled b' c' p' best') = absurd (none best'.path best'.route)
  same_at a e (GlobalAt.filled b c p best) (GlobalAt.blank p' none') = absurd (none' best.path best.route)
  same_at a e (GlobalAt.filled b c p best) (GlobalAt.filled b' c' p' best') =
      let below : AtMost m c c' = subst (AtMost m c) best'.costs (best.least best'.path best'.route) in
      let above : AtMost m c' c = subst (AtMost m c') best.costs (best'.least best.path best.route) in
      let same_cost : c ≡ c' = laws.antisymmetric c c' below above in
      let low : b ≤ b' = best.smallest best'.path best'.route (best'.costs ∙ sym same_cost) b' best'.second in
      let high : b' ≤ b = best'.smallest best.path best.route (best.costs ∙ same_cost) b best.second in
      let same_next : b ≡ b' = omega arith in
      cc

  pub one_table : (a : ℕ) → Among a net.roster → (e : Class) → t a e ≡ t' a e
  one_table a near e = go (ℕ_discrete a d)
    where
      go : Dec (a ≡ d) → t a e ≡ t' a e
      go (yes i) = subst (λ v. t v e ≡ t' v e) (sym i) (one.arrived e ∙ sym (other.arrived e))
      go (no away) = same_at a e (one.elsewhere a near away e) (other.elsewhere a near away e)
