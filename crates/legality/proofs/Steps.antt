-- One step of a legal path: what its rest is, and how a step goes before a legal path. Assumes nothing.
use Rattle.std.proofs.Common.{◌≡◌, ℕ, ◌≢◌, ◌⊎◌, List, [], ◌∷◌, Some, sym, refl, subst, inl, inr, arith}
use Rattle.std.proofs.lemmas.Option.{same_Some}
use Rattle.network.specs.declared.types.Figures.{Figures}
use Rattle.network.specs.declared.types.Relation.{Relation}
use Rattle.network.specs.declared.types.Relation.TheVariants.{Provider, Customer, Peer}
use Rattle.network.specs.Books.{turned}
use Rattle.network.specs.Rosters.{Among}
use Rattle.network.proofs.Somes.{none_some, same_pair}
use Rattle.measure.specs.Measures.{Measure, Laws, AtMost}
use Rattle.legality.specs.declared.types.Class.{Class}
use Rattle.legality.specs.declared.types.Class.TheVariants.{Home, Outside}
use Rattle.legality.specs.Classes.{allowed}
use Rattle.legality.specs.Networks.{Network, Sound}
use Rattle.legality.specs.Paths.{CustomerOf, Served, Open, First, Second, Route, cost}
use Rattle.legality.proofs.Lists.{among_last}
use Rattle.legality.proofs.Costs.{cost_step, cost_rises}
use Rattle.legality.proofs.Orders.{less_at_most, at_most_trans}

Customer≢Provider : Customer ≢ Provider
Customer≢Provider p = let z : ◌≡◌ {A = ℕ} 0 1 = cc in omega arith

Peer≢Provider : Peer ≢ Provider
Peer≢Provider p = let z : ◌≡◌ {A = ℕ} 0 1 = cc in omega arith

-- what traffic of the class e may do includes what one of the class e' may do
abbrev pub Covers : Class → Class → Type 0
Covers Home e' = Unit {0}
Covers Outside Home = ⊥
Covers Outside Outside = Unit {0}

pub covers_next : (e : Class) (w : Relation) (e' : Class) → allowed e w ≡ Some e' → Covers e e'
covers_next Home w e' p = tt
covers_next Outside Customer e' p = absurd (none_some refl p)
covers_next Outside Provider e' p = subst (λ v. Covers Outside v) (same_Some _ _ p) tt
covers_next Outside Peer e' p = absurd (none_some refl p)

-- to show P of each list that begins with a
pub by_first : (P : List ℕ → Type 0) (a : ℕ) → ((r : List ℕ) → P (a ∷ r)) → (p : List ℕ) → First a p → P p
by_first P a all [] h = absurd h
by_first P a all (x ∷ r) h = subst (λ v. P (v ∷ r)) (sym h) (all r)

module _ (net : Network) where
  pub covers_open : (e e' : Class) → Covers e e' → (p : List ℕ) → Open net e' p → Open net e p
  covers_open Home e' k p o = tt
  covers_open Outside Home k p o = absurd k
  covers_open Outside Outside k p o = o

  pub open_one : (e : Class) (a : ℕ) → Open net e (a ∷ [])
  open_one Home a = tt
  open_one Outside a = tt

  -- one AS, where one is at once
  pub stay : (e : Class) (a d : ℕ) → Among a net.roster → a ≡ d → Route net e a d (a ∷ [])
  stay e a d near i =
      record {
        legal = record { path = record { chain = near; distinct = (λ h. h, tt) }; served = tt };
        first = refl;
        last = i;
        free = open_one e a;
      }

  pub covers_route : (e e' : Class) → Covers e e' → (a d : ℕ) (p : List ℕ) → Route net e' a d p → Route net e a d p
  covers_route e e' k a d p r = record { legal = r.legal; first = r.first; last = r.last; free = covers_open e e' k p r.free }

-- A path's first step, and the rest of it.
pub record Parted (net : Network) (e : Class) (d a b : ℕ) (r : List ℕ) : Type 0 where
  pub relation : Relation
  pub link : Figures
  pub class : Class
  pub linked : net.step a b ≡ Some (relation, link)
  pub permitted : allowed e relation ≡ Some class
  pub near : Among a net.roster
  pub absent : ¬ Among a (b ∷ r)
  pub away : a ≢ d
  pub rest : Route net class b d (b ∷ r)

module _ {net : Network} (sound : Sound net) where
  -- after a step that is not to a provider, the next one is to a customer
  onward : (a b : ℕ) (r : List ℕ) (w : Relation) (f : Figures) → turned w ≢ Provider → net.step a b ≡ Some (w, f) → Served net (a ∷ (b ∷ r)) → Open net Outside (b ∷ r)
  onward a b [] w f n p s = tt
  onward a b (c ∷ r) w f n p s =
      elim s.0 [ inl k ↦ absurd (n (same_pair (sound.back a b w f p) k.1).0) | inr k ↦ k ]

  part_open : (a b : ℕ) (r : List ℕ) (e : Class) (w : Relation) (f : Figures) → net.step a b ≡ Some (w, f) → Served net (a ∷ (b ∷ r)) → Open net e (a ∷ (b ∷ r)) →
      (e' : Class) × (allowed e w ≡ Some e') × Open net e' (b ∷ r)
  part_open a b r Home Customer f p s o = (Home, refl, tt)
  part_open a b r Home Provider f p s o = (Outside, refl, onward a b r Provider f Customer≢Provider p s)
  part_open a b r Home Peer f p s o = (Outside, refl, onward a b r Peer f Peer≢Provider p s)
  part_open a b r Outside Customer f p s o = absurd (Customer≢Provider (same_pair p o.1).0)
  part_open a b r Outside Provider f p s o = (Outside, refl, onward a b r Provider f Customer≢Provider p s)
  part_open a b r Outside Peer f p s o = absurd (Peer≢Provider (same_pair p o.1).0)

  served_rest : (a b : ℕ) (r : List ℕ) → Served net (a ∷ (b ∷ r)) → Served net (b ∷ r)
  served_rest a b [] s = tt
  served_rest a b (c ∷ r) s = s.1

  pub part : (e : Class) (d x a b : ℕ) (r : List ℕ) → Route net e x d (a ∷ (b ∷ r)) → Parted net e d a b r
  part e d x a b r h =
      let path = h.legal.path in
      let link = path.chain.1 in
      let absent = path.distinct.0 in
      let o = part_open a b r e link.0 link.1 link.2 h.legal.served h.free in
      record {
        relation = link.0;
        link = link.1;
        class = o.0;
        linked = link.2;
        permitted = o.1;
        near = path.chain.0;
        absent = absent;
        away = λ i. absent (subst (λ v. Among v (b ∷ r)) (sym i) (among_last d (b ∷ r) h.last));
        rest = record {
          legal = record {
            path = record { chain = path.chain.2; distinct = path.distinct.1 };
            served = served_rest a b r h.legal.served;
          };
          first = refl;
          last = h.last;
          free = o.2;
        };
      }

  -- a step before a legal path
  enter : (a b : ℕ) (r : List ℕ) (e e' : Class) (w : Relation) (f : Figures) → net.step a b ≡ Some (w, f) → allowed e w ≡ Some e' → Open net e' (b ∷ r) → Open net e (a ∷ (b ∷ r))
  enter a b r Home e' w f p q o = tt
  enter a b r Outside e' Customer f p q o = absurd (none_some refl q)
  enter a b r Outside e' Provider f p q o = (f, p)
  enter a b r Outside e' Peer f p q o = absurd (none_some refl q)

  serve : (a b c : ℕ) (r : List ℕ) (e e' : Class) (w : Relation) (f : Figures) → net.step a b ≡ Some (w, f) → allowed e w ≡ Some e' → Open net e' (b ∷ (c ∷ r)) → CustomerOf net b a ⊎ CustomerOf net b c
  serve a b c r Home e' Customer f p q o = inl (f, sound.back a b Customer f p)
  serve a b c r Home e' Provider f p q o = inr (subst (λ v. Open net v (b ∷ (c ∷ r))) (sym (same_Some _ _ q)) o)
  serve a b c r Home e' Peer f p q o = inr (subst (λ v. Open net v (b ∷ (c ∷ r))) (sym (same_Some _ _ q)) o)
  serve a b c r Outside e' Customer f p q o = absurd (none_some refl q)
  serve a b c r Outside e' Provider f p q o = inr (subst (λ v. Open net v (b ∷ (c ∷ r))) (sym (same_Some _ _ q)) o)
  serve a b c r Outside e' Peer f p q o = absurd (none_some refl q)

  serve_all : (a b : ℕ) (r : List ℕ) (e e' : Class) (w : Relation) (f : Figures) → net.step a b ≡ Some (w, f) → allowed e w ≡ Some e' → Open net e' (b ∷ r) → Served net (b ∷ r) → Served net (a ∷ (b ∷ r))
  serve_all a b [] e e' w f p q o s = tt
  serve_all a b (c ∷ r) e e' w f p q o s = (serve a b c r e e' w f p q o, s)

module _ {C : Type 0} (m : Measure C) {net : Network} (sound : Sound net) where
  pub prepend : (a b d : ℕ) (e e' : Class) (w : Relation) (f : Figures) → net.step a b ≡ Some (w, f) → allowed e w ≡ Some e' →
      (q : List ℕ) → First b q → Route net e' b d q → ¬ Among a q → Route net e a d (a ∷ q) × Second b (a ∷ q) × (cost m net (a ∷ q) ≡ m.extend (cost m net q) f)
  prepend a b d e e' w f p ok = by_first _ b go
    where
      go : (r : List ℕ) → Route net e' b d (b ∷ r) → ¬ Among a (b ∷ r) →
          Route net e a d (a ∷ (b ∷ r)) × Second b (a ∷ (b ∷ r)) × (cost m net (a ∷ (b ∷ r)) ≡ m.extend (cost m net (b ∷ r)) f)
      go r h n = (
        record {
          legal = record {
            path = record { chain = (sound.near_end a b w f p, (w, f, p), h.legal.path.chain); distinct = (n, h.legal.path.distinct) };
            served = serve_all sound a b r e e' w f p ok h.free h.legal.served;
          };
          first = refl;
          last = h.last;
          free = enter sound a b r e e' w f p ok h.free;
        },
        refl,
        cost_step m net a b r w f p,
      )

module _ {C : Type 0} {m : Measure C} {net : Network} (laws : Laws m) (sound : Sound net) where
  -- from each AS of a legal path on, there is a legal path that costs no more
  pub suffix : (q : List ℕ) (e : Class) (b d a : ℕ) → Route net e b d q → Among a q → (s : List ℕ) × Route net e a d s × AtMost m (cost m net s) (cost m net q)
  suffix [] e b d a h i = absurd i
  suffix (x ∷ []) e b d a h (inl i) = (x ∷ [], record { legal = h.legal; first = sym i; last = h.last; free = h.free }, laws.irreflexive _)
  suffix (x ∷ []) e b d a h (inr i) = absurd i
  suffix (x ∷ (y ∷ r)) e b d a h (inl i) = (x ∷ (y ∷ r), record { legal = h.legal; first = sym i; last = h.last; free = h.free }, laws.irreflexive _)
  suffix (x ∷ (y ∷ r)) e b d a h (inr i) =
      let p = part sound e d b x y r h in
      let s = suffix (y ∷ r) p.class y d a p.rest i in
      let dearer = cost_rises laws sound x y r p.relation p.link p.linked p.rest.legal.path in (
        s.0,
        covers_route net e p.class (covers_next e p.relation p.class p.permitted) a d s.0 s.1,
        at_most_trans laws _ _ _ s.2 (less_at_most laws _ _ dearer),
      )
