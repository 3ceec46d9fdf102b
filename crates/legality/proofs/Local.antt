-- A table whose entries are right for their neighbours' entries has the shortest paths. Assumes nothing.
use Rattle.std.proofs.Common.{◌≡◌, ℕ, zero, suc, ◌<◌, ◌≢◌, List, [], ◌∷◌, Some, sym, ap, ◌∙◌, subst, subst₂, arith}
use native.Mathlib.Decide.{ℕ_discrete}
use Rattle.network.specs.Rosters.{Among}
use Rattle.network.proofs.Somes.{none_some, same_pair}
use Rattle.measure.specs.Measures.{Measure, Laws, AtMost}
use Rattle.legality.specs.declared.types.Class.{Class}
use Rattle.legality.specs.Networks.{Network, Sound}
use Rattle.legality.specs.Paths.{Route, First, Second, cost}
use Rattle.legality.specs.Tables.{Table, Offers, Chosen, LocalAt, Local, GlobalAt, Global, Follows}
use Rattle.legality.proofs.Orders.{at_most_trans, not_both}
use Rattle.legality.proofs.Costs.{path_within}
use Rattle.legality.proofs.Steps.{by_first, stay, part, prepend, suffix, covers_next, covers_route}
use Rattle.legality.proofs.Entries.{chosen_at}
use Rattle.legality.proofs.Offers.{Filled, offer_of, offer_dearer}
use Rattle.legality.proofs.Ranks.{rank, rank_falls}

module _ {C : Type 0} {m : Measure C} {net : Network} (laws : Laws m) (sound : Sound net) (t : Table C) (d : ℕ) (right : Local m net t d) where
  take_offer : (a : ℕ) (e : Class) (b : ℕ) (c k : C) → Offers m net t a e b c → AtMost m c k → LocalAt m net t a e → Filled m t a e k
  take_offer a e b c k o l (LocalAt.blank p none) = absurd (none b c o)
  take_offer a e b c k o l (LocalAt.filled x v p best) =
      record { next = x; value = v; holds = p; within = best.within; cheap = at_most_trans laws v c k (best.least b c o) l }

  -- No legal path is cheaper than the entry.
  pub optimal : (p : List ℕ) (e : Class) (a : ℕ) → Route net e a d p → Filled m t a e (cost m net p)
  optimal [] e a h = absurd h.first
  optimal (x ∷ []) e a h =
      record {
        next = d;
        value = m.start;
        holds = subst (λ v. t v e ≡ Some (d, m.start)) (sym h.last ∙ h.first) (right.arrived e);
        within = path_within laws sound (x ∷ []) h.legal.path;
        cheap = laws.irreflexive m.start;
      }
  optimal (x ∷ (y ∷ r)) e a h =
      let p = part sound e d a x y r h in
      let o = offer_of laws sound t e d x y r p (optimal (y ∷ r) p.class y p.rest) in
      subst (λ v. Filled m t v e (cost m net (x ∷ (y ∷ r)))) h.first
      (take_offer x e y o.0 (cost m net (x ∷ (y ∷ r))) o.1 o.2 (right.elsewhere x p.near p.away e))

  -- the walk from an entry
  pub record Trip (a : ℕ) (e : Class) (b : ℕ) (c : C) : Type 0 where
    pub path : List ℕ
    pub route : Route net e a d path
    pub costs : cost m net path ≡ c
    pub second : a ≢ d → Second b path
    pub follows : Follows net t d e path

  -- what is known of the entries of lower rank
  abbrev Below : ℕ → Type 0
  Below n = (a : ℕ) (e : Class) (b : ℕ) (c : C) → Among a net.roster → t a e ≡ Some (b, c) → rank m t c net.roster < n → Trip a e b c

  at_once : (a : ℕ) (e : Class) (b : ℕ) (c : C) → Among a net.roster → a ≡ d → t a e ≡ Some (b, c) → Trip a e b c
  at_once a e b c near i p =
      record {
        path = a ∷ [];
        route = stay net e a d near i;
        costs = (same_pair (subst (λ v. t v e ≡ Some (d, m.start)) (sym i) (right.arrived e)) p).1;
        second = λ n. absurd (n i);
        follows = i;
      }

  -- The walk from the entry that a goes on to does not come back to a.
  no_return : (a : ℕ) (e : Class) (b : ℕ) (c : C) → t a e ≡ Some (b, c) → (o : Offers m net t a e b c) → (q : List ℕ) → Route net o.class b d q → cost m net q ≡ o.base → ¬ Among a q
  no_return a e b c p o q h costs i =
      let s = suffix laws sound q o.class b d a h i in
      let k = optimal s.0 e a (covers_route net e o.class (covers_next e o.relation o.class o.permitted) a d s.0 s.1) in
      let low : AtMost m c (cost m net s.0) = subst (λ v. AtMost m v (cost m net s.0)) (same_pair k.holds p).1 k.cheap in
      let lower : AtMost m c o.base = subst (AtMost m c) costs (at_most_trans laws c (cost m net s.0) (cost m net q) low s.2) in
      not_both (offer_dearer laws sound t a e b c o) lower

  onward : (n : ℕ) → Below n → (a : ℕ) (e : Class) (b : ℕ) (c : C) → a ≢ d → t a e ≡ Some (b, c) → rank m t c net.roster < suc n → Offers m net t a e b c → Trip a e b c
  onward n below a e b c away p low o =
      let near : Among b net.roster = sound.far_end a b o.relation o.figures o.linked in
      let falls = rank_falls laws t o.base c (offer_dearer laws sound t a e b c o) net.roster b o.class o.next near o.entry in
      let rest = below b o.class o.next o.base near o.entry (omega (arith, falls)) in
      let absent : ¬ Among a rest.path = no_return a e b c p o rest.path rest.route rest.costs in
      let whole = prepend m sound a b d e o.class o.relation o.figures o.linked o.permitted rest.path rest.route.first rest.route absent in
      record {
        path = a ∷ rest.path;
        route = whole.0;
        costs = whole.2 ∙ ap (λ v. m.extend v o.figures) rest.costs ∙ sym o.worth;
        second = λ n. whole.1;
        follows = follow rest.path rest.route.first rest.follows;
      }
    where
      follow : (q : List ℕ) → First b q → Follows net t d o.class q → Follows net t d e (a ∷ q)
      follow = by_first _ b (λ r f. (away, (c, p), (o.relation, o.figures, o.class, o.linked, o.permitted, f)))

  trips : (n : ℕ) → Below n
  trips zero a e b c near p low = absurd (none low)
    where
      none : ¬ (rank m t c net.roster < 0)
      none l = omega arith
  trips (suc n) a e b c near p low = go (trips n) (ℕ_discrete a d)
    where
      go : Below n → Dec (a ≡ d) → Trip a e b c
      go below (yes i) = at_once a e b c near i p
      go below (no away) = onward n below a e b c away p low (chosen_at (right.elsewhere a near away e) p).offered

  -- From each entry a walk leads to d that is a legal path, and costs what the entry says.
  pub trip : (a : ℕ) (e : Class) (b : ℕ) (c : C) → Among a net.roster → t a e ≡ Some (b, c) → Trip a e b c
  trip a e b c near p = trips (suc (rank m t c net.roster)) a e b c near p (omega arith)

  -- A path that costs what the entry says goes by a AS that offers just that.
  offered_by : (a : ℕ) (e : Class) (b : ℕ) (c : C) → Chosen m net t a e b c → (q : List ℕ) → Route net e a d q → cost m net q ≡ c → (b' : ℕ) → Second b' q → Offers m net t a e b' c
  offered_by a e b c best [] h costs b' i = absurd i
  offered_by a e b c best (x ∷ []) h costs b' i = absurd i
  offered_by a e b c best (x ∷ (y ∷ r)) h costs b' i =
      let p = part sound e d a x y r h in
      let o = offer_of laws sound t e d x y r p (optimal (y ∷ r) p.class y p.rest) in
      let offer : Offers m net t a e b' o.0 = subst₂ (λ v w. Offers m net t v e w o.0) h.first i o.1 in
      let same : o.0 ≡ c = laws.antisymmetric o.0 c (subst (AtMost m o.0) costs o.2) (best.least b' o.0 offer) in
      subst (Offers m net t a e b') same offer

  pub local_is_global : Global m net t d
  local_is_global = record { arrived = right.arrived; elsewhere = λ a near away e. at a near away e (right.elsewhere a near away e) }
    where
      at : (a : ℕ) → Among a net.roster → a ≢ d → (e : Class) → LocalAt m net t a e → GlobalAt m net t d a e
      at a near away e (LocalAt.blank p none) = GlobalAt.blank p (λ q h. none_some p (optimal q e a h).holds)
      at a near away e (LocalAt.filled b c p best) =
          let walk = trip a e b c near p in
          GlobalAt.filled b c p (record {
            path = walk.path;
            route = walk.route;
            second = walk.second away;
            costs = walk.costs;
            least = λ q h. let k = optimal q e a h in subst (λ v. AtMost m v (cost m net q)) (same_pair k.holds p).1 k.cheap;
            smallest = λ q h costs b' i. best.smallest b' (offered_by a e b c best q h costs b' i);
          })
