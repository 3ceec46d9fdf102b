-- An offer comes to a pair: what holds while links are gone through still holds. Assumes nothing.
use Rattle.std.proofs.Common.{◌≡◌, ℕ, suc, ◌≤◌, true, ◌≢◌, ◌⊎◌, Some, None, Option, sym, refl, ap, ◌∙◌, subst, inl, inr, ⊎_elim, arith}
use Rattle.std.proofs.lemmas.Option.{same_Some}
use Rattle.network.specs.declared.types.Relation.{Relation}
use Rattle.network.specs.declared.types.Figures.{Figures}
use Rattle.network.specs.Limits.{Limits}
use Rattle.network.specs.Rosters.{Among}
use Rattle.network.proofs.Somes.{none_some, same_pair}
use Rattle.measure.specs.Measures.{Measure, Laws, AtMost, Within}
use Rattle.legality.specs.declared.types.Class.{Class}
use Rattle.legality.specs.Classes.{allowed}
use Rattle.legality.specs.Networks.{Network, Sound}
use Rattle.legality.specs.Tables.{Table, Offers}
use Rattle.legality.proofs.Orders.{less_at_most, at_most_less, not_both}
use Rattle.labels.specs.Labels.{Waiting, done, taken, size, Reach, Best, Outcome, Elsewhere, Relaxing, Less}
use Rattle.labels.proofs.Pairs.{pair?, everywhere}
use Rattle.labels.proofs.Sizes.{size_bound, reach_within, reach_start, reach_extend, reach_more}
use Rattle.labels.proofs.Bests.{With, best_same, best_offer}

done_none : {C : Type 0} (o : Option (ℕ × C)) (w : Option C) → w ≡ None → done o w ≡ o
done_none o w p = ap (done o) p

done_some : {C : Type 0} (o : Option (ℕ × C)) (w : Option C) (k : C) → w ≡ Some k → done o w ≡ None
done_some o w k p = ap (done o) p

pub none_or_some : {X : Type 0} (o : Option X) → (o ≡ None) ⊎ ((x : X) × (o ≡ Some x))
none_or_some None = inl refl
none_or_some (Some x) = inr (x, refl)

module _ {C : Type 0} {m : Measure C} {net : Network} (laws : Laws m) (sound : Sound net)
    (d b : ℕ) (e' : Class) (c : C) (q : Table C) (Fresh : ℕ → Class → Type 0) (t : Table C) (w : Waiting C)
    (r : Relaxing m net d b e' c q Fresh t w) where
  few : size q net.roster ≤ 1024
  few = omega (arith, size_bound q net.roster, sound.few)

  few_old : suc (size r.old net.roster) ≤ 1024
  few_old = omega (arith, few, r.more)

  -- the cost that was taken can be extended
  pub source_within : Within m c
  source_within = reach_within laws (size r.old net.roster) c (omega (arith, few_old)) r.source

  pub source_start : AtMost m m.start c
  source_start = reach_start laws (size r.old net.roster) c (omega (arith, few_old)) r.source

  -- a pair that is taken is filled
  taken_filled : (a : ℕ) (e : Class) (x : ℕ) (v : C) → t a e ≡ Some (x, v) → w a e ≡ None → AtMost m v c
  taken_filled a e x v p n = r.ceiling a e x v (sym (r.settled a e) ∙ done_none (t a e) (w a e) n ∙ p)

  -- what is offered from what was taken before is offered still
  old_offer : (a : ℕ) (e : Class) (x : ℕ) (k : C) → Offers m net r.old a e x k → Offers m net q a e x k
  old_offer a e x k o =
      record {
        relation = o.relation;
        figures = o.figures;
        class = o.class;
        next = o.next;
        base = o.base;
        linked = o.linked;
        permitted = o.permitted;
        entry = r.others x o.class (λ h. none_some r.before (subst (λ v. r.old v e' ≡ Some (o.next, o.base)) h.0 (subst (λ v. r.old x v ≡ Some (o.next, o.base)) h.1 o.entry))) ∙ o.entry;
        within = o.within;
        worth = o.worth;
      }

  -- what is offered now was offered before, or comes from the pair that was taken last
  new_offer : (a : ℕ) (e : Class) (x : ℕ) (k : C) (o : Offers m net q a e x k) →
      Offers m net r.old a e x k ⊎ ((x ≡ b) × (net.step a b ≡ Some (o.relation, o.figures)) × (allowed e o.relation ≡ Some e') × (k ≡ m.extend c o.figures))
  new_offer a e x k o = go (pair? b e' x o.class)
    where
      go : ((x ≡ b) × (o.class ≡ e')) ⊎ ((x ≡ b) × (o.class ≡ e') → ⊥) →
          Offers m net r.old a e x k ⊎ ((x ≡ b) × (net.step a b ≡ Some (o.relation, o.figures)) × (allowed e o.relation ≡ Some e') × (k ≡ m.extend c o.figures))
      go (inl h) =
          let here : q b e' ≡ Some (o.next, o.base) = subst (λ v. q v e' ≡ Some (o.next, o.base)) h.0 (subst (λ v. q x v ≡ Some (o.next, o.base)) h.1 o.entry) in
          let base : o.base ≡ c = (same_pair here r.pivot.1).1 in
          inr (h.0, subst (λ v. net.step a v ≡ Some (o.relation, o.figures)) h.0 o.linked, o.permitted ∙ ap Some h.1, o.worth ∙ ap (λ v. m.extend v o.figures) base)
      go (inr n) =
          inl (record {
            relation = o.relation;
            figures = o.figures;
            class = o.class;
            next = o.next;
            base = o.base;
            linked = o.linked;
            permitted = o.permitted;
            entry = sym (r.others x o.class n) ∙ o.entry;
            within = o.within;
            worth = o.worth;
          })

  -- where no step leads to the pair that was taken last, nothing new is offered
  pub no_offer : (a : ℕ) (e : Class) → ((relation : Relation) (f : Figures) → net.step a b ≡ Some (relation, f) → allowed e relation ≡ Some e' → ⊥) →
      (o : Option (ℕ × C)) → Best m (Offers m net r.old a e) o → Best m (Offers m net q a e) o
  no_offer a e none o h =
      best_same laws (Offers m net r.old a e) (Offers m net q a e) (old_offer a e)
      (λ x k p. ⊎_elim (λ z. z) (λ (z : (x ≡ b) × (net.step a b ≡ Some (p.relation, p.figures)) × (allowed e p.relation ≡ Some e') × (k ≡ m.extend c p.figures)). absurd (none p.relation p.figures z.1 z.2)) (new_offer a e x k p))
      o h

  -- the same state, with other pairs that the offer has not come to
  with_fresh : (Fresh' : ℕ → Class → Type 0) → ((x : ℕ) → Among x net.roster → x ≢ d → (y : Class) → Best m (Offers m net q x y) (t x y) ⊎ (Best m (Offers m net r.old x y) (t x y) × Fresh' x y)) →
      Relaxing m net d b e' c q Fresh' t w
  with_fresh Fresh' best =
      record {
        old = r.old;
        before = r.before;
        pivot = r.pivot;
        others = r.others;
        ceiling = r.ceiling;
        source = r.source;
        more = r.more;
        arrived = r.arrived;
        waiting = r.waiting;
        inside = r.inside;
        settled = r.settled;
        floor = r.floor;
        reached = r.reached;
        best = best;
      }

  pub weaken : (Fresh' : ℕ → Class → Type 0) → ((x : ℕ) (y : Class) → Fresh x y → Fresh' x y) → Relaxing m net d b e' c q Fresh' t w
  weaken Fresh' f = with_fresh Fresh' (λ a near away e. ⊎_elim (λ h. inl h) (λ h. inr (h.0, f a e h.1)) (r.best a near away e))

  -- one step and one class
  module _ (a : ℕ) (e : Class) (relation : Relation) (f : Figures) (linked : net.step a b ≡ Some (relation, f)) where
    pub offer_limits : Limits f
    offer_limits = sound.limits a b relation f linked

    -- the offer is dearer than what was taken
    rises : m.less c (m.extend c f) ≡ true
    rises = laws.strict c f source_within offer_limits

    offer_reach : Reach m (size q net.roster) (m.extend c f)
    offer_reach = reach_more laws (suc (size r.old net.roster)) (size q net.roster) (m.extend c f) r.more (reach_extend laws (size r.old net.roster) c f offer_limits r.source)

    -- an entry that the offer lowers waits, at its cost
    pub may_lower : (x : ℕ) (v : C) → t a e ≡ Some (x, v) → m.less (m.extend c f) v ≡ true → w a e ≡ Some v
    may_lower x v p l = go (none_or_some (w a e))
      where
        go : (w a e ≡ None) ⊎ ((k : C) × (w a e ≡ Some k)) → w a e ≡ Some v
        go (inl n) = absurd (not_both (laws.transitive c (m.extend c f) v rises l) (taken_filled a e x v p n))
        go (inr k) = let h = r.waiting a e k.0 k.1 in k.1 ∙ ap Some (sym (same_pair p h.1).1)

    -- a blank entry does not wait
    pub blank_idle : t a e ≡ None → w a e ≡ None
    blank_idle p = go (none_or_some (w a e))
      where
        go : (w a e ≡ None) ⊎ ((k : C) × (w a e ≡ Some k)) → w a e ≡ None
        go (inl n) = n
        go (inr k) = absurd (none_some p (r.waiting a e k.0 k.1).1)

    -- a step that the class may not take, or not to the class that was taken
    pub skip_step : (allowed e relation ≡ Some e' → ⊥) → Relaxing m net d b e' c q (Less Fresh a e) t w
    skip_step not =
        with_fresh (Less Fresh a e) (λ x near away y. everywhere
        (λ x y. Among x net.roster → x ≢ d → Best m (Offers m net q x y) (t x y) ⊎ (Best m (Offers m net r.old x y) (t x y) × Less Fresh a e x y)) a e
        (λ near away. inl (⊎_elim (λ h. h) (λ h. no_offer a e none (t a e) h.0) (r.best a near away e)))
        (λ x y n near away. ⊎_elim (λ h. inl h) (λ h. inr (h.0, (h.1, n))) (r.best x near away y))
        x y near away)
      where
        none : (relation' : Relation) (f' : Figures) → net.step a b ≡ Some (relation', f') → allowed e relation' ≡ Some e' → ⊥
        none relation' f' p z = not (subst (λ v. allowed e v ≡ Some e') (same_pair p linked).0 z)

    module _ (permitted : allowed e relation ≡ Some e') where
      -- the offer itself
      given : (x : ℕ) (k : C) → x ≡ b → k ≡ m.extend c f → Offers m net q a e x k
      given x k i j =
          record {
            relation = relation;
            figures = f;
            class = e';
            next = r.pivot.0;
            base = c;
            linked = subst (λ v. net.step a v ≡ Some (relation, f)) (sym i) linked;
            permitted = permitted;
            entry = subst (λ v. q v e' ≡ Some (r.pivot.0, c)) (sym i) r.pivot.1;
            within = source_within;
            worth = j;
          }

      -- what is offered now is what was offered before, and the offer
      with_offer : (o : Option (ℕ × C)) → Best m (With (Offers m net r.old a e) b (m.extend c f)) o → Best m (Offers m net q a e) o
      with_offer o h =
          best_same laws (With (Offers m net r.old a e) b (m.extend c f)) (Offers m net q a e)
          (λ x k p. ⊎_elim (λ z. old_offer a e x k z) (λ z. given x k z.0 z.1) p)
          (λ x k p. ⊎_elim (λ z. inl z)
          (λ (z : (x ≡ b) × (net.step a b ≡ Some (p.relation, p.figures)) × (allowed e p.relation ≡ Some e') × (k ≡ m.extend c p.figures)).
          inr (z.0, z.3 ∙ ap (m.extend c) (same_pair z.1 linked).1))
          (new_offer a e x k p))
          o h

      again_offer : (o : Option (ℕ × C)) → Best m (With (Offers m net q a e) b (m.extend c f)) o → Best m (Offers m net q a e) o
      again_offer o h =
          best_same laws (With (Offers m net q a e) b (m.extend c f)) (Offers m net q a e)
          (λ x k p. ⊎_elim (λ z. z) (λ z. given x k z.0 z.1) p)
          (λ x k p. inl p)
          o h

      -- What the offer makes of the pair.
      module _ (t' : Table C) (w' : Waiting C) (out : Outcome m (t a e) (w a e) b (m.extend c f) (t' a e) (w' a e)) (same_t : Elsewhere t t' a e) (same_w : Elsewhere w w' a e) where
        waiting_here : (o : Outcome m (t a e) (w a e) b (m.extend c f) (t' a e) (w' a e)) → (k : C) → w' a e ≡ Some k → (x : ℕ) × (t' a e ≡ Some (x, k))
        waiting_here (Outcome.fresh p n s) k h = (b, n ∙ ap (λ v. Some (b, v)) (same_Some _ _ (sym s ∙ h)))
        waiting_here (Outcome.lower x v p l n s) k h = (b, n ∙ ap (λ v. Some (b, v)) (same_Some _ _ (sym s ∙ h)))
        waiting_here (Outcome.dearer x v p l n s) k h = let z = r.waiting a e k (sym s ∙ h) in (x, n ∙ ap (λ v. Some (x, v)) (same_pair p z.1).1)
        waiting_here (Outcome.tied x y p n i j l s) k h = let z = r.waiting a e k (sym s ∙ h) in (y, n ∙ ap (λ v. Some (y, v)) (same_pair p z.1).1)

        floor_here : (o : Outcome m (t a e) (w a e) b (m.extend c f) (t' a e) (w' a e)) → (k : C) → w' a e ≡ Some k → AtMost m c k
        floor_here (Outcome.fresh p n s) k h = subst (AtMost m c) (same_Some _ _ (sym s ∙ h)) (less_at_most laws c (m.extend c f) rises)
        floor_here (Outcome.lower x v p l n s) k h = subst (AtMost m c) (same_Some _ _ (sym s ∙ h)) (less_at_most laws c (m.extend c f) rises)
        floor_here (Outcome.dearer x v p l n s) k h = r.floor a e k (sym s ∙ h)
        floor_here (Outcome.tied x y p n i j l s) k h = r.floor a e k (sym s ∙ h)

        reached_here : (o : Outcome m (t a e) (w a e) b (m.extend c f) (t' a e) (w' a e)) → (x : ℕ) (k : C) → t' a e ≡ Some (x, k) → Reach m (size q net.roster) k
        reached_here (Outcome.fresh p n s) z k h = subst (Reach m (size q net.roster)) (same_pair n h).1 offer_reach
        reached_here (Outcome.lower x v p l n s) z k h = subst (Reach m (size q net.roster)) (same_pair n h).1 offer_reach
        reached_here (Outcome.dearer x v p l n s) z k h = r.reached a e x k (p ∙ sym n ∙ h ∙ ap (λ v. Some (v, k)) (same_pair h n).0)
        reached_here (Outcome.tied x y p n i j l s) z k h = subst (Reach m (size q net.roster)) (same_pair n h).1 offer_reach

        settled_here : (o : Outcome m (t a e) (w a e) b (m.extend c f) (t' a e) (w' a e)) → taken t' w' a e ≡ q a e
        settled_here (Outcome.fresh p n s) =
            done_some (t' a e) (w' a e) (m.extend c f) s ∙ sym p ∙ sym (done_none (t a e) (w a e) (blank_idle p)) ∙ r.settled a e
        settled_here (Outcome.lower x v p l n s) =
            done_some (t' a e) (w' a e) (m.extend c f) s ∙ sym (done_some (t a e) (w a e) v (may_lower x v p l)) ∙ r.settled a e
        settled_here (Outcome.dearer x v p l n s) =
            ap (done (t' a e)) s ∙ ap (λ z. done z (w a e)) (n ∙ sym p) ∙ r.settled a e
        settled_here (Outcome.tied x y p n i j l s) =
            go (none_or_some (w a e))
          where
            go : (w a e ≡ None) ⊎ ((k : C) × (w a e ≡ Some k)) → taken t' w' a e ≡ q a e
            go (inl z) = absurd (not_both rises (taken_filled a e x (m.extend c f) p z))
            go (inr k) = done_some (t' a e) (w' a e) k.0 (s ∙ k.1) ∙ sym (done_some (t a e) (w a e) k.0 k.1) ∙ r.settled a e

        -- The destination's entries stay.
        stays : (y : Class) → d ≡ a → y ≡ e → (o : Outcome m (t a e) (w a e) b (m.extend c f) (t' a e) (w' a e)) → t' a e ≡ Some (d, m.start)
        stays y i j o = go o
          where
            was : t a e ≡ Some (d, m.start)
            was = subst (λ v. t v e ≡ Some (d, m.start)) i (r.arrived e)

            above : m.less m.start (m.extend c f) ≡ true
            above = at_most_less laws m.start c (m.extend c f) source_start rises

            go : Outcome m (t a e) (w a e) b (m.extend c f) (t' a e) (w' a e) → t' a e ≡ Some (d, m.start)
            go (Outcome.fresh p n s) = absurd (none_some p was)
            go (Outcome.lower x v p l n s) = absurd (not_both (subst (λ z. m.less (m.extend c f) z ≡ true) (same_pair p was).1 l) (less_at_most laws m.start (m.extend c f) above))
            go (Outcome.dearer x v p l n s) = n ∙ sym p ∙ was
            go (Outcome.tied x y p n i j l s) = absurd (not_both (subst (λ z. m.less z (m.extend c f) ≡ true) (sym (same_pair p was).1) above) (laws.irreflexive (m.extend c f)))

        pub relax_step : Relaxing m net d b e' c q (Less Fresh a e) t' w'
        relax_step =
            record {
              old = r.old;
              before = r.before;
              pivot = r.pivot;
              others = r.others;
              ceiling = r.ceiling;
              source = r.source;
              more = r.more;
              arrived = λ y. arrived_at y (pair? a e d y);
              waiting = everywhere (λ x y. (k : C) → w' x y ≡ Some k → (z : ℕ) × (t' x y ≡ Some (z, k))) a e (waiting_here out)
                  (λ x y n k h. let z = r.waiting x y k (sym (same_w x y n) ∙ h) in (z.0, same_t x y n ∙ z.1));
              inside = everywhere (λ x y. (z : ℕ) (k : C) → t' x y ≡ Some (z, k) → Among x net.roster) a e (λ z k h. sound.near_end a b relation f linked)
                  (λ x y n z k h. r.inside x y z k (sym (same_t x y n) ∙ h));
              settled = everywhere (λ x y. taken t' w' x y ≡ q x y) a e (settled_here out)
                  (λ x y n. ap (λ o. done o (w' x y)) (same_t x y n) ∙ ap (done (t x y)) (same_w x y n) ∙ r.settled x y);
              floor = everywhere (λ x y. (k : C) → w' x y ≡ Some k → AtMost m c k) a e (floor_here out)
                  (λ x y n k h. r.floor x y k (sym (same_w x y n) ∙ h));
              reached = everywhere (λ x y. (z : ℕ) (k : C) → t' x y ≡ Some (z, k) → Reach m (size q net.roster) k) a e (reached_here out)
                  (λ x y n z k h. r.reached x y z k (sym (same_t x y n) ∙ h));
              best = λ x near away y. everywhere (λ x y. Among x net.roster → x ≢ d → Best m (Offers m net q x y) (t' x y) ⊎ (Best m (Offers m net r.old x y) (t' x y) × Less Fresh a e x y)) a e
                  (λ near away. inl (best_here (r.best a near away e)))
                  (λ x y n near away. best_there x y n (r.best x near away y))
                  x y near away;
            }
          where
            arrived_at : (y : Class) → ((d ≡ a) × (y ≡ e)) ⊎ ((d ≡ a) × (y ≡ e) → ⊥) → t' d y ≡ Some (d, m.start)
            arrived_at y (inl h) = subst (λ v. t' v y ≡ Some (d, m.start)) (sym h.0) (subst (λ v. t' a v ≡ Some (d, m.start)) (sym h.1) (stays y h.0 h.1 out))
            arrived_at y (inr n) = same_t d y n ∙ r.arrived y

            best_here : Best m (Offers m net q a e) (t a e) ⊎ (Best m (Offers m net r.old a e) (t a e) × Fresh a e) → Best m (Offers m net q a e) (t' a e)
            best_here (inl h) = again_offer (t' a e) (best_offer laws (Offers m net q a e) b (m.extend c f) (t a e) (t' a e) (w a e) (w' a e) h out)
            best_here (inr h) = with_offer (t' a e) (best_offer laws (Offers m net r.old a e) b (m.extend c f) (t a e) (t' a e) (w a e) (w' a e) h.0 out)

            best_there : (x : ℕ) (y : Class) → ((x ≡ a) × (y ≡ e) → ⊥) → Best m (Offers m net q x y) (t x y) ⊎ (Best m (Offers m net r.old x y) (t x y) × Fresh x y) →
                Best m (Offers m net q x y) (t' x y) ⊎ (Best m (Offers m net r.old x y) (t' x y) × Less Fresh a e x y)
            best_there x y n (inl h) = inl (subst (Best m (Offers m net q x y)) (sym (same_t x y n)) h)
            best_there x y n (inr h) = inr (subst (Best m (Offers m net r.old x y)) (sym (same_t x y n)) h.0, (h.1, n))
