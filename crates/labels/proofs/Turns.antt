-- The turns of the method: its start, a pair that is taken, the end of its links, and the end of all. Assumes nothing.
use Rattle.std.proofs.Common.{◌≡◌, ℕ, ◌<◌, ◌≢◌, ◌⊎◌, Some, None, Option, sym, refl, ap, ◌∙◌, subst, inl, inr, arith}
use Rattle.std.proofs.lemmas.Option.{same_Some}
use Rattle.std.proofs.lemmas.Bool.{cases_eq}
use Rattle.network.specs.declared.types.Relation.{Relation}
use Rattle.network.specs.declared.types.Figures.{Figures}
use Rattle.network.specs.Rosters.{Among}
use Rattle.network.proofs.Somes.{none_some}
use Rattle.measure.specs.Measures.{Measure, Laws, AtMost, Within}
use Rattle.legality.specs.declared.types.Class.{Class}
use Rattle.legality.specs.Networks.{Network, Sound}
use Rattle.legality.specs.Tables.{Table, Offers, LocalAt, Local, Global}
use Rattle.legality.proofs.Orders.{at_most_trans}
use Rattle.legality.proofs.Local.{local_is_global}
use Rattle.labels.specs.Labels.{Waiting, done, taken, size, Reach, Best, Elsewhere, Going, Relaxing}
use Rattle.labels.proofs.Pairs.{everywhere}
use Rattle.labels.proofs.Sizes.{size_bound, size_same, size_grows, reach_within, reach_more, reach_none}
use Rattle.labels.proofs.Bests.{best_same}
use Rattle.labels.proofs.Steps.{no_offer}

module _ {C : Type 0} {m : Measure C} {net : Network} (laws : Laws m) (sound : Sound net) where
  -- offers by tables with the same entries
  offers_by : (p q : Table C) → ((a : ℕ) (e : Class) → p a e ≡ q a e) → (a : ℕ) (e : Class) (x : ℕ) (k : C) → Offers m net p a e x k → Offers m net q a e x k
  offers_by p q same a e x k o =
      record {
        relation = o.relation;
        figures = o.figures;
        class = o.class;
        next = o.next;
        base = o.base;
        linked = o.linked;
        permitted = o.permitted;
        entry = sym (same x o.class) ∙ o.entry;
        within = o.within;
        worth = o.worth;
      }

  best_by : (p q : Table C) → ((a : ℕ) (e : Class) → p a e ≡ q a e) → (a : ℕ) (e : Class) (o : Option (ℕ × C)) → Best m (Offers m net p a e) o → Best m (Offers m net q a e) o
  best_by p q same a e = best_same laws (Offers m net p a e) (Offers m net q a e) (offers_by p q same a e) (offers_by q p (λ x y. sym (same x y)) a e)

  module _ (d : ℕ) (t : Table C) (w : Waiting C) where
    -- At first only the destination's pairs are filled, and they wait.
    pub start : Among d net.roster → ((e : Class) → t d e ≡ Some (d, m.start)) → ((a : ℕ) (e : Class) → a ≢ d → t a e ≡ None) →
        ((e : Class) → w d e ≡ Some m.start) → ((a : ℕ) (e : Class) → a ≢ d → w a e ≡ None) → Going m net d t w
    start near here blank waits idle =
        record {
          arrived = here;
          waiting = λ a e k h. filled a e k h (cases_eq a d);
          inside = λ a e x k h. known a e x k h (cases_eq a d);
          order = λ a e x k h. absurd (none_some (nothing a e) h);
          reached = λ a e x k h. zero_cost a e x k h (cases_eq a d);
          best = λ a near away e. Best.blank (blank a e away) (λ b c o. none_some (nothing b o.class) o.entry);
        }
      where
        nothing : (a : ℕ) (e : Class) → taken t w a e ≡ None
        nothing a e = go (cases_eq a d)
          where
            go : (a ≡ d) ⊎ (a ≢ d) → taken t w a e ≡ None
            go (inl i) = ap (done (t a e)) (subst (λ v. w v e ≡ Some m.start) (sym i) (waits e))
            go (inr n) = ap (λ o. done o (w a e)) (blank a e n) ∙ ap (done None) (idle a e n)

        filled : (a : ℕ) (e : Class) (k : C) → w a e ≡ Some k → (a ≡ d) ⊎ (a ≢ d) → (x : ℕ) × (t a e ≡ Some (x, k))
        filled a e k h (inl i) = (d, subst (λ v. t v e ≡ Some (d, m.start)) (sym i) (here e) ∙ ap (λ v. Some (d, v)) (same_Some _ _ (sym (subst (λ v. w v e ≡ Some m.start) (sym i) (waits e)) ∙ h)))
        filled a e k h (inr n) = absurd (none_some (idle a e n) h)

        known : (a : ℕ) (e : Class) (x : ℕ) (k : C) → t a e ≡ Some (x, k) → (a ≡ d) ⊎ (a ≢ d) → Among a net.roster
        known a e x k h (inl i) = subst (λ v. Among v net.roster) (sym i) near
        known a e x k h (inr n) = absurd (none_some (blank a e n) h)

        zero_cost : (a : ℕ) (e : Class) (x : ℕ) (k : C) → t a e ≡ Some (x, k) → (a ≡ d) ⊎ (a ≢ d) → Reach m (size (taken t w) net.roster) k
        zero_cost a e x k h (inl i) =
            let same : (d, m.start) ≡ (x, k) = same_Some _ _ (sym (subst (λ v. t v e ≡ Some (d, m.start)) (sym i) (here e)) ∙ h) in
            subst (Reach m (size (taken t w) net.roster)) (ap (λ v. v.1) same) (reach_none laws (size (taken t w) net.roster))
        zero_cost a e x k h (inr n) = absurd (none_some (blank a e n) h)

  module _ (d : ℕ) (t : Table C) (w : Waiting C) (going : Going m net d t w) where
    -- The pair (b, e') is taken, at the cost c, the least that waits.
    module _ (b : ℕ) (e' : Class) (c : C) (waited : w b e' ≡ Some c) (least : (a : ℕ) (e : Class) (k : C) → w a e ≡ Some k → AtMost m c k)
        (w' : Waiting C) (gone : w' b e' ≡ None) (same_w : Elsewhere w w' b e') where
      entry : (x : ℕ) × (t b e' ≡ Some (x, c))
      entry = going.waiting b e' c waited

      none : taken t w b e' ≡ None
      none = ap (done (t b e')) waited

      some : taken t w' b e' ≡ Some (entry.0, c)
      some = ap (done (t b e')) gone ∙ entry.1

      others : Elsewhere (taken t w) (taken t w') b e'
      others x y n = ap (done (t x y)) (same_w x y n)

      pub grows : size (taken t w) net.roster < size (taken t w') net.roster
      grows = size_grows (taken t w) (taken t w') b e' (entry.0, c) none some others net.roster (going.inside b e' entry.0 c entry.1)

      waits_still : (a : ℕ) (e : Class) (k : C) → w' a e ≡ Some k → w a e ≡ Some k
      waits_still = everywhere (λ a e. (k : C) → w' a e ≡ Some k → w a e ≡ Some k) b e' (λ k h. absurd (none_some gone h)) (λ a e n k h. sym (same_w a e n) ∙ h)

      taken_most : (a : ℕ) (e : Class) (x : ℕ) (k : C) → taken t w' a e ≡ Some (x, k) → AtMost m k c
      taken_most =
          everywhere (λ a e. (x : ℕ) (k : C) → taken t w' a e ≡ Some (x, k) → AtMost m k c) b e'
          (λ x k h. let same : (entry.0, c) ≡ (x, k) = same_Some _ _ (sym some ∙ h) in subst (λ v. AtMost m v c) (ap (λ v. v.1) same) (laws.irreflexive c))
          (λ a e n x k h. going.order a e x k (sym (others a e n) ∙ h) b e' c waited)

      pub begin : (Fresh : ℕ → Class → Type 0) → ((x : ℕ) (y : Class) → Fresh x y) → Relaxing m net d b e' c (taken t w') Fresh t w'
      begin Fresh all =
          record {
            old = taken t w;
            before = none;
            pivot = (entry.0, some);
            others = others;
            ceiling = taken_most;
            source = going.reached b e' entry.0 c entry.1;
            more = grows;
            arrived = going.arrived;
            waiting = λ a e k h. going.waiting a e k (waits_still a e k h);
            inside = going.inside;
            settled = λ a e. refl;
            floor = λ a e k h. least a e k (waits_still a e k h);
            reached = λ a e x k h. reach_more laws (size (taken t w) net.roster) (size (taken t w') net.roster) k (omega (arith, grows)) (going.reached a e x k h);
            best = λ a near away e. inr (going.best a near away e, all a e);
          }

    within : (a : ℕ) (e : Class) (x : ℕ) (k : C) → t a e ≡ Some (x, k) → Within m k
    within a e x k h =
        reach_within laws (size (taken t w) net.roster) k (omega (arith, size_bound (taken t w) net.roster, sound.few)) (going.reached a e x k h)

    -- Where nothing waits, the table is right.
    pub right : ((a : ℕ) (e : Class) → w a e ≡ None) → Local m net t d
    right idle = record { arrived = going.arrived; elsewhere = λ a near away e. at a e (best_by (taken t w) t all_taken a e (t a e) (going.best a near away e)) }
      where
        all_taken : (a : ℕ) (e : Class) → taken t w a e ≡ t a e
        all_taken a e = ap (done (t a e)) (idle a e)

        at : (a : ℕ) (e : Class) → Best m (Offers m net t a e) (t a e) → LocalAt m net t a e
        at a e (Best.blank p none) = LocalAt.blank p none
        at a e (Best.filled b c p by least first) = LocalAt.filled b c p (record { within = within a e b c p; offered = by; least = least; smallest = first })

    pub shortest : ((a : ℕ) (e : Class) → w a e ≡ None) → Global m net t d
    shortest idle = local_is_global laws sound t d (right idle)

  -- All links of the pair have been gone through.
  module _ (d b : ℕ) (e' : Class) (c : C) (q : Table C) (Fresh : ℕ → Class → Type 0) (t : Table C) (w : Waiting C)
      (r : Relaxing m net d b e' c q Fresh t w) (all : (x : ℕ) (y : Class) (relation : Relation) (f : Figures) → Fresh x y → net.step x b ≡ Some (relation, f) → ⊥) where
    pub same_size : size (taken t w) net.roster ≡ size q net.roster
    same_size = size_same (taken t w) q r.settled net.roster

    pub finish : Going m net d t w
    finish =
        record {
          arrived = r.arrived;
          waiting = r.waiting;
          inside = r.inside;
          order = λ a e x k h a' e'' k' i. at_most_trans laws k c k' (r.ceiling a e x k (sym (r.settled a e) ∙ h)) (r.floor a' e'' k' i);
          reached = λ a e x k h. subst (λ n. Reach m n k) (sym same_size) (r.reached a e x k h);
          best = λ a near away e. best_by q (taken t w) (λ x y. sym (r.settled x y)) a e (t a e) (now a e (r.best a near away e));
        }
      where
        now : (a : ℕ) (e : Class) → Best m (Offers m net q a e) (t a e) ⊎ (Best m (Offers m net r.old a e) (t a e) × Fresh a e) → Best m (Offers m net q a e) (t a e)
        now a e (inl h) = h
        now a e (inr h) = no_offer laws sound d b e' c q Fresh t w r a e (λ relation f p k. all a e relation f h.1 p) (t a e) h.0
