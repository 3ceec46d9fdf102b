-- What a path's second AS offers to its first. Assumes nothing.
use Rattle.std.proofs.Common.{◌≡◌, ℕ, true, List, ◌∷◌, Some, sym, refl, subst}
use Rattle.measure.specs.Measures.{Measure, Laws, AtMost, Within}
use Rattle.legality.specs.declared.types.Class.{Class}
use Rattle.legality.specs.Networks.{Network, Sound}
use Rattle.legality.specs.Paths.{cost}
use Rattle.legality.specs.Tables.{Table, Offers}
use Rattle.legality.proofs.Costs.{cost_step, path_within}
use Rattle.legality.proofs.Steps.{Parted}

-- an entry that costs at most c
pub record Filled {C : Type 0} (m : Measure C) (t : Table C) (a : ℕ) (e : Class) (c : C) : Type 0 where
  pub next : ℕ
  pub value : C
  pub holds : t a e ≡ Some (next, value)
  pub within : Within m value
  pub cheap : AtMost m value c

module _ {C : Type 0} {m : Measure C} {net : Network} (laws : Laws m) (sound : Sound net) (t : Table C) where
  -- what the second AS of a path offers to the first
  pub offer_of : (e : Class) (d a b : ℕ) (r : List ℕ) (p : Parted net e d a b r) → Filled m t b p.class (cost m net (b ∷ r)) →
      (c : C) × Offers m net t a e b c × AtMost m c (cost m net (a ∷ (b ∷ r)))
  offer_of e d a b r p k = (
    m.extend k.value p.link,
    record {
      relation = p.relation;
      figures = p.link;
      class = p.class;
      next = k.next;
      base = k.value;
      linked = p.linked;
      permitted = p.permitted;
      entry = k.holds;
      within = k.within;
      worth = refl;
    },
    subst (AtMost m (m.extend k.value p.link)) (sym (cost_step m net a b r p.relation p.link p.linked))
        (laws.monotone k.value (cost m net (b ∷ r)) p.link k.within (path_within laws sound (b ∷ r) p.rest.legal.path) (sound.limits a b p.relation p.link p.linked) k.cheap),
  )

  -- an offer is dearer than what it is made from
  pub offer_dearer : (a : ℕ) (e : Class) (b : ℕ) (c : C) (o : Offers m net t a e b c) → m.less o.base c ≡ true
  offer_dearer a e b c o =
      subst (λ v. m.less o.base v ≡ true) (sym o.worth) (laws.strict o.base o.figures o.within (sound.limits a b o.relation o.figures o.linked))
