-- One link of the pair that was taken last. Assumes nothing.
use Rattle.std.specs.Prelude.{slice_get}
use Rattle.std.proofs.lemmas.Option.{same_Some}
use Rattle.std.proofs.Common.{◌≡◌, ℕ, ◌+◌, ◌<◌, ◌≢◌, List, length, get_or, Some, None, sym, refl, ap, ◌∙◌, subst, inl, inr, ⊎_elim, arith}
use Rattle.std.proofs.lemmas.Bool.{cases_eq}
use Rattle.network.specs.declared.types.Relation.{Relation}
use Rattle.network.specs.declared.types.Link.{Link}
use Rattle.network.specs.Limits.{Limits}
use Rattle.network.specs.Rosters.{place}
use Rattle.network.specs.Sound.{Sound}
use Rattle.network.specs.Steps.{far_end}
use Rattle.network.proofs.Somes.{none_some}
use Rattle.network.proofs.Rising.{among_place}
use Rattle.measure.specs.declared.Measure.{Ghosts}
use Rattle.measure.specs.Measures.{Laws, Within}
use Rattle.legality.specs.declared.types.Class.{Class}
use Rattle.legality.specs.declared.types.Class.TheVariants.{Home, Outside}
use Rattle.legality.specs.Tables.{Table}
use Rattle.legality.specs.Networks.{net_of, Joins}
use Rattle.legality.proofs.Links.{network_sound, proper_at, far_end_some, far_end_none}
use Rattle.labels.specs.Labels.{Waiting, Relaxing, Less}
use Rattle.labels.proofs.Steps.{source_within, skip_step, weaken}
use Rattle.table.specs.declared.types.Entry.{Entry}
use Rattle.table.specs.Columns.{entry, pair, at_place, table}
use Rattle.settle.specs.declared.filling.Filling.{Filling}
use Rattle.settle.specs.declared.filling.ends.End.{End}
use Rattle.settle.specs.declared.filling.pairs.Taken.{Taken}
use Rattle.settle.specs.States.{waits_of, rows_of, Untouched, Relaxed, Midway}
use Rattle.settle.specs.Offers.{Ready, Offered, Told}
use Rattle.settle.specs.Ends.{NoEnd, Other}
use Rattle.settle.proofs.Lifts.{pair_inside, ready, relaxed, same_tidy}

-- a link's other end is in the roster
pub end_known : (roster : List ℕ) (book : List Link) → Sound roster book → (k : ℕ) (l : Link) → slice_get book k ≡ Some l → (b a : ℕ) (relation : Relation) → far_end l b ≡ Some (a, relation) → place roster a ≢ None
end_known roster book sound k l p b a relation far none =
    none_some none (among_place roster a ((network_sound roster book sound).near_end a b relation l.figures (far_end_some roster book sound k l p b a relation far).linked)).1

-- the AS of a pair
abbrev near : {C : Type 0} → List ℕ → Taken C → ℕ
near roster from = get_or roster from.place 0

leads : {C : Type 0} (roster : List ℕ) (book : List Link) (sound : Sound roster book) (from : Taken C) (k : ℕ) (end : End) (o : Other roster book from.place k end) → (net_of roster book).step o.other (near roster from) ≡ Some (end.relation, end.figures)
leads roster book sound from k end o =
    (far_end_some roster book sound k o.link o.stands (near roster from) o.other end.relation o.far).linked ∙ ap (λ f. Some (end.relation, f)) (sym o.figures)

pub end_limits : (roster : List ℕ) (book : List Link) (sound : Sound roster book) (i k : ℕ) (end : End) (o : Other roster book i k end) → Limits end.figures
end_limits roster book sound i k end o = subst Limits (sym o.figures) (proper_at roster book sound k o.link o.stands).limits

module _ {X C : Type 0} {g : Ghosts X C} (laws : Laws g.measure) (roster : List ℕ) (book : List Link) (sound : Sound roster book) (from : Taken C) (k d : ℕ) (q : Table C) where
  -- the offer has come to the pairs that Fresh lacks
  abbrev On : (ℕ → Class → Type 0) → Filling X C g → Type 0
  On Fresh x = Relaxed roster book d (near roster from) from.class from.cost q Fresh x

  fresher : (Fresh Fresh' : ℕ → Class → Type 0) → ((a : ℕ) (y : Class) → Fresh a y → Fresh' a y) → (x : Filling X C g) → On Fresh x → On Fresh' x
  fresher Fresh Fresh' still x r = record { tidy = r.tidy; relaxing = weaken laws (network_sound roster book sound) d (near roster from) from.class from.cost q Fresh (rows_of roster x) (waits_of roster x.waiting) r.relaxing Fresh' still }

  pub within : (Fresh : ℕ → Class → Type 0) (x : Filling X C g) → On Fresh x → Within g.measure from.cost
  within Fresh x r = source_within laws (network_sound roster book sound) d (near roster from) from.class from.cost q Fresh (rows_of roster x) (waits_of roster x.waiting) r.relaxing

  -- the book up to one that is none, or not one of the pair's AS
  pub passed : NoEnd roster book from.place k → (x : Filling X C g) → Midway roster book from k d q x → Midway roster book from (k + 1) d q x
  passed none x = fresher (Untouched book k (near roster from)) (Untouched book (k + 1) (near roster from)) more x
    where
      more : (a : ℕ) (y : Class) → Untouched book k (near roster from) a y → Untouched book (k + 1) (near roster from) a y
      more a y f i l lt s j =
          ⊎_elim
          (λ (z : i ≡ k). far_end_none roster book sound l (near roster from) (none l (subst (λ v. slice_get book v ≡ Some l) z s)) a j)
          (λ (z : i ≢ k). f i l (omega arith) s j) (cases_eq i k)

  -- A link of the pair's AS with the AS at end.spot, and the offer that comes over it.
  module _ (end : End) (o : Other roster book from.place k end) (offer : Entry C) (is : offer ≡ entry from.place (g.measure.extend from.cost end.figures)) (known : from.place < length roster) where
    -- one class of the other AS
    module _ (Fresh : ℕ → Class → Type 0) (e : Class) (x : Filling X C g) (r : On Fresh x) where
      pub class_asks : (pair end.spot e < length x.column.now) × Ready x (pair end.spot e) offer.cost
      class_asks = (
        pair_inside {g = g} laws roster book sound d from.place known from.class from.cost q Fresh x r o.other end.spot e o.here end.relation end.figures (leads roster book sound from k end o),
        subst (λ v. Ready x (pair end.spot e) v.cost) (sym is)
            (ready {g = g} laws roster book sound d from.place known from.class from.cost q Fresh x r o.other end.spot e o.here end.relation end.figures (leads roster book sound from k end o)),
      )

      abbrev Skipped : Table C → Waiting C → Type 0
      Skipped = Relaxing g.measure (net_of roster book) d (near roster from) from.class from.cost q (Less Fresh o.other e)

      pub class_told : (x' : Filling X C g) → Told e end.relation from.class offer (pair end.spot e) x x' → On (Less Fresh o.other e) x'
      class_told x' (inl t) =
          relaxed {g = g} laws roster book sound d from.place known from.class from.cost q Fresh x r o.other end.spot e o.here end.relation end.figures (leads roster book sound from k end o) t.0 x'
          (subst (λ v. Offered v (pair end.spot e) x x') is t.1)
      class_told x' (inr t) =
          record {
            tidy = same_tidy roster x x' t.1 r.tidy;
            relaxing = subst (λ f. Skipped (rows_of roster x') (λ a y. at_place (place roster a) (λ i. f (pair i y)))) (sym t.2)
                (subst (λ l. Skipped (table g.measure.start roster l) (waits_of roster x.waiting)) (sym t.1)
                (skip_step laws (network_sound roster book sound) d (near roster from) from.class from.cost q Fresh (rows_of roster x) (waits_of roster x.waiting) r.relaxing o.other e end.relation end.figures (leads roster book sound from k end o) t.0));
          }

    -- both classes of the other AS
    pub both_told : (x : Filling X C g) → On (Less (Less (Untouched book k (near roster from)) o.other Home) o.other Outside) x → Midway roster book from (k + 1) d q x
    both_told x = fresher (Less (Less (Untouched book k (near roster from)) o.other Home) o.other Outside) (Untouched book (k + 1) (near roster from)) more x
      where
        neither : (a : ℕ) (y : Class) → a ≡ o.other → ((a ≡ o.other) × (y ≡ Home) → ⊥) → ((a ≡ o.other) × (y ≡ Outside) → ⊥) → ⊥
        neither a Home z h n = h (z, refl)
        neither a Outside z h n = n (z, refl)

        more : (a : ℕ) (y : Class) → Less (Less (Untouched book k (near roster from)) o.other Home) o.other Outside a y → Untouched book (k + 1) (near roster from) a y
        more a y f i l lt s j =
            ⊎_elim
            (λ (z : i ≡ k). neither a y ((far_end_some roster book sound k o.link o.stands (near roster from) o.other end.relation o.far).only a (subst (λ v. Joins v a (near roster from)) (same_Some _ _ (sym s ∙ subst (λ v. slice_get book v ≡ Some o.link) (sym z) o.stands)) j)) f.0.1 f.1)
            (λ (z : i ≢ k). f.0.0 i l (omega arith) s j) (cases_eq i k)
