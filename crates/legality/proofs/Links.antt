-- The network of a roster and a book: its steps go over the links of the book, and it is sound. Assumes nothing.
use Rattle.std.specs.Prelude.{slice_get}
use Rattle.std.proofs.lemmas.Option.{same_Some}
use Rattle.std.proofs.Common.{◌≡◌, ℕ, suc, ◌<◌, min, max, true, false, cond, eqb, ◌≢◌, ◌⊎◌, List, [], ◌∷◌, length, Some, None, Option, sym, refl, ap, ◌∙◌, subst, subst₂, inl, inr, ⊎_elim, arith}
use Rattle.std.proofs.lemmas.Bool.{cases_Bool, cases_eq, cases_lt, and_parts, eqb-true, eq-eqb, ne_eqb, cond-true, cond-false}
use Rattle.network.specs.declared.types.Figures.{Figures}
use Rattle.network.specs.declared.types.Link.{Link}
use Rattle.network.specs.declared.types.Relation.{Relation}
use Rattle.network.specs.declared.types.Relation.TheVariants.{Provider, Customer, Peer}
use Rattle.network.specs.Rosters.{Among}
use Rattle.network.specs.Limits.{Limits}
use Rattle.network.specs.Books.{joins, find, link_of, turned}
use Rattle.network.specs.Steps.{step_over, far_end}
use Rattle.network.specs.Sound as store
use Rattle.network.specs.Sound.{Proper}
use Rattle.network.proofs.Single.{all_at, only}
use Rattle.network.proofs.Somes.{none_some, same_pair}
use Rattle.legality.specs.Networks.{Sound, net_of, Joins}

turned_twice : (r : Relation) → turned (turned r) ≡ r
turned_twice Provider = refl
turned_twice Customer = refl
turned_twice Peer = refl

-- the far end of a link, by which end is near
end_high : (l : Link) (b : ℕ) → l.low ≡ b → far_end l b ≡ Some (l.high, turned l.relation)
end_high l b h = cond-true (eqb l.low b) (Some (l.high, turned l.relation)) (cond (eqb l.high b) (Some (l.low, l.relation)) None) (eq-eqb l.low b h)

end_other : (l : Link) (b : ℕ) → l.low ≢ b → far_end l b ≡ cond (eqb l.high b) (Some (l.low, l.relation)) None
end_other l b n = cond-false (eqb l.low b) (Some (l.high, turned l.relation)) (cond (eqb l.high b) (Some (l.low, l.relation)) None) (ne_eqb l.low b n)

end_low : (l : Link) (b : ℕ) → l.low ≢ b → l.high ≡ b → far_end l b ≡ Some (l.low, l.relation)
end_low l b n h = end_other l b n ∙ cond-true (eqb l.high b) (Some (l.low, l.relation)) None (eq-eqb l.high b h)

end_none : (l : Link) (b : ℕ) → l.low ≢ b → l.high ≢ b → far_end l b ≡ None
end_none l b n k = end_other l b n ∙ cond-false (eqb l.high b) (Some (l.low, l.relation)) None (ne_eqb l.high b k)

-- a link that is found stands in the book, at its pair
pub record Found (book : List Link) (low high : ℕ) (l : Link) : Type 0 where
  pub spot : ℕ
  pub within : spot < length book
  pub stands : slice_get book spot ≡ Some l
  pub lower : l.low ≡ low
  pub higher : l.high ≡ high

pub found : (book : List Link) (low high : ℕ) (l : Link) → find book low high ≡ Some l → Found book low high l
found [] low high l e = absurd (none_some refl e)
found (x ∷ xs) low high l e = go (λ k. found xs low high l k) (cases_Bool (joins low high x))
  where
    go : (find xs low high ≡ Some l → Found xs low high l) → (joins low high x ≡ true) ⊎ (joins low high x ≡ false) → Found (x ∷ xs) low high l
    go more (inl y) =
        let is : x ≡ l = same_Some _ _ (sym (cond-true (joins low high x) (Some x) (find xs low high) y) ∙ e) in
        let both = and_parts (eqb x.low low) (eqb x.high high) y in
        record {
          spot = 0;
          within = omega arith;
          stands = ap Some is;
          lower = ap (λ z. z.low) (sym is) ∙ eqb-true x.low low both.0;
          higher = ap (λ z. z.high) (sym is) ∙ eqb-true x.high high both.1;
        }
    go more (inr n) =
        let rest = more (sym (cond-false (joins low high x) (Some x) (find xs low high) n) ∙ e) in
        record { spot = suc rest.spot; within = omega (arith, rest.within); stands = rest.stands; lower = rest.lower; higher = rest.higher }

-- what a step of the network says of the book
record Stepped (book : List Link) (a b : ℕ) (f : Figures) : Type 0 where
  link : Link
  found_at : Found book (min a b) (max a b) link
  figures_are : f ≡ link.figures

module _ (roster : List ℕ) (book : List Link) (sound : store.Sound roster book) where
  pub proper_at : (i : ℕ) (l : Link) → slice_get book i ≡ Some l → Proper roster l
  proper_at = all_at (Proper roster) book sound.proper

  stepped : (a b : ℕ) (w : Relation) (f : Figures) → (net_of roster book).step a b ≡ Some (w, f) → Stepped book a b f
  stepped a b w f e = go (link_of book a b) refl e
    where
      go : (o : Option Link) → link_of book a b ≡ o → step_over a o ≡ Some (w, f) → Stepped book a b f
      go None p q = absurd (none_some refl q)
      go (Some l) p q = record { link = l; found_at = found book (min a b) (max a b) l p; figures_are = sym (ap (λ z. z.1) (same_Some _ _ q)) }

  ends : (a b : ℕ) (l : Link) → l.low ≡ min a b → l.high ≡ max a b → Joins l a b
  ends a b l lo hi = elim (cases_lt a b) [ inl h ↦ inl (omega arith, omega arith) | inr h ↦ inr (omega arith, omega arith) ]

  -- the link that a step goes over
  pub step_joins : (a b : ℕ) (w : Relation) (f : Figures) → (net_of roster book).step a b ≡ Some (w, f) →
      (i : ℕ) × (l : Link) × (i < length book) × (slice_get book i ≡ Some l) × Joins l a b
  step_joins a b w f e =
      let s = stepped a b w f e in
      let k = s.found_at in
      (k.spot, s.link, k.within, k.stands, ends a b s.link k.lower k.higher)

  -- the step over a link of the book, from its higher AS ..
  pub from_high : (i : ℕ) (l : Link) → slice_get book i ≡ Some l → (net_of roster book).step l.high l.low ≡ Some (turned l.relation, l.figures)
  from_high i l p =
      let lt = (proper_at i l p).ordered in
      let lo : min l.high l.low ≡ l.low = omega arith in
      let hi : max l.high l.low ≡ l.high = omega arith in
      let at_pair : link_of book l.high l.low ≡ Some l = ap (λ x. find book x (max l.high l.low)) lo ∙ ap (find book l.low) hi ∙ only book sound.in_order i l p in
      ap (step_over l.high) at_pair ∙
      ap (λ z. Some (z, l.figures)) (cond-false (eqb l.low l.high) l.relation (turned l.relation) (ne_eqb l.low l.high (λ e. omega arith)))

  -- .. and from its lower one
  pub from_low : (i : ℕ) (l : Link) → slice_get book i ≡ Some l → (net_of roster book).step l.low l.high ≡ Some (l.relation, l.figures)
  from_low i l p =
      let lt = (proper_at i l p).ordered in
      let lo : min l.low l.high ≡ l.low = omega arith in
      let hi : max l.low l.high ≡ l.high = omega arith in
      let at_pair : link_of book l.low l.high ≡ Some l = ap (λ x. find book x (max l.low l.high)) lo ∙ ap (find book l.low) hi ∙ only book sound.in_order i l p in
      ap (step_over l.low) at_pair ∙
      ap (λ z. Some (z, l.figures)) (cond-true (eqb l.low l.low) l.relation (turned l.relation) (eq-eqb l.low l.low refl))

  -- both of them, between a and b
  pub both_ways : (i : ℕ) (l : Link) → slice_get book i ≡ Some l → (a b : ℕ) → l.low ≡ a → l.high ≡ b →
      ((net_of roster book).step a b ≡ Some (l.relation, l.figures)) × ((net_of roster book).step b a ≡ Some (turned l.relation, l.figures))
  both_ways i l p a b h k = (
    subst₂ (λ x y. (net_of roster book).step x y ≡ Some (l.relation, l.figures)) h k (from_low i l p),
    subst₂ (λ x y. (net_of roster book).step y x ≡ Some (turned l.relation, l.figures)) h k (from_high i l p),
  )

  known : (a b : ℕ) (l : Link) → Proper roster l → Joins l a b → Among a roster × Among b roster × (a ≢ b)
  known a b l ok (inl h) =
      let lt = ok.ordered in
      (subst (λ x. Among x roster) h.0 ok.low_known, subst (λ x. Among x roster) h.1 ok.high_known, λ z. omega (arith, h.0, h.1))
  known a b l ok (inr h) =
      let lt = ok.ordered in
      (subst (λ x. Among x roster) h.1 ok.high_known, subst (λ x. Among x roster) h.0 ok.low_known, λ z. omega (arith, h.0, h.1))

  pub network_sound : Sound (net_of roster book)
  network_sound =
      record {
        few = sound.few;
        near_end = λ a b w f e. (ends_known a b w f e).0;
        far_end = λ a b w f e. (ends_known a b w f e).1;
        no_loop = λ a b w f e. (ends_known a b w f e).2;
        limits = λ a b w f e. let s = stepped a b w f e in subst Limits (sym s.figures_are) (proper_at s.found_at.spot s.link s.found_at.stands).limits;
        back = λ a b w f e. let j = step_joins a b w f e in back a b w f e j.0 j.1 j.3 j.4;
      }
    where
      ends_known : (a b : ℕ) (w : Relation) (f : Figures) → (net_of roster book).step a b ≡ Some (w, f) → Among a roster × Among b roster × (a ≢ b)
      ends_known a b w f e = let j = step_joins a b w f e in known a b j.1 (proper_at j.0 j.1 j.3) j.4

      back : (a b : ℕ) (w : Relation) (f : Figures) → (net_of roster book).step a b ≡ Some (w, f) → (i : ℕ) (l : Link) → slice_get book i ≡ Some l → Joins l a b →
          (net_of roster book).step b a ≡ Some (turned w, f)
      back a b w f e i l p (inl h) =
          let both = both_ways i l p a b h.0 h.1 in
          let s = same_pair e both.0 in
          both.1 ∙ ap (λ x. Some (turned x, l.figures)) (sym s.0) ∙ ap (λ x. Some (turned w, x)) (sym s.1)
      back a b w f e i l p (inr h) =
          let both = both_ways i l p b a h.0 h.1 in
          let s = same_pair e both.1 in
          both.0 ∙ ap (λ x. Some (x, l.figures)) (sym (turned_twice l.relation) ∙ ap turned (sym s.0)) ∙ ap (λ x. Some (turned w, x)) (sym s.1)

  -- what the other end of a link is
  pub record End (l : Link) (b a : ℕ) (w : Relation) : Type 0 where
    pub linked : (net_of roster book).step a b ≡ Some (w, l.figures)
    pub only : (x : ℕ) → Joins l x b → x ≡ a

  pub far_end_some : (i : ℕ) (l : Link) → slice_get book i ≡ Some l → (b a : ℕ) (w : Relation) → far_end l b ≡ Some (a, w) → End l b a w
  far_end_some i l p b a w e = go (cases_eq l.low b) (cases_eq l.high b)
    where
      lt : l.low < l.high
      lt = (proper_at i l p).ordered

      go : (l.low ≡ b) ⊎ (l.low ≢ b) → (l.high ≡ b) ⊎ (l.high ≢ b) → End l b a w
      go (inl h) (inl k) = absurd (omega (arith, lt))
      go (inl h) (inr k) =
          let same : (l.high, turned l.relation) ≡ (a, w) = same_Some _ _ (sym (end_high l b h) ∙ e) in
          let ea : l.high ≡ a = ap (λ z. z.0) same in
          record {
            linked = (both_ways i l p b a h ea).1 ∙ ap (λ z. Some (z.1, l.figures)) same;
            only = λ x j. ⊎_elim (λ (z : (l.low ≡ x) × (l.high ≡ b)). absurd (k z.1)) (λ (z : (l.low ≡ b) × (l.high ≡ x)). sym z.1 ∙ ea) j;
          }
      go (inr n) (inl h) =
          let same : (l.low, l.relation) ≡ (a, w) = same_Some _ _ (sym (end_low l b n h) ∙ e) in
          let ea : l.low ≡ a = ap (λ z. z.0) same in
          record {
            linked = (both_ways i l p a b ea h).0 ∙ ap (λ z. Some (z.1, l.figures)) same;
            only = λ x j. ⊎_elim (λ (z : (l.low ≡ x) × (l.high ≡ b)). sym z.0 ∙ ea) (λ (z : (l.low ≡ b) × (l.high ≡ x)). absurd (n z.0)) j;
          }
      go (inr n) (inr k) = absurd (none_some (end_none l b n k) e)

  pub far_end_none : (l : Link) (b : ℕ) → far_end l b ≡ None → (x : ℕ) → Joins l x b → ⊥
  far_end_none l b e x j = go (cases_eq l.low b) j
    where
      go : (l.low ≡ b) ⊎ (l.low ≢ b) → Joins l x b → ⊥
      go (inl h) j = none_some e (end_high l b h)
      go (inr n) (inl h) = none_some e (end_low l b n h.1)
      go (inr n) (inr h) = n h.0
