-- A turn of the method, over a column that is being filled. Assumes nothing.
use Rattle.std.proofs.Common.{◌≡◌, ℕ, ◌-◌, ◌*◌, ◌<◌, Bool, ◌≢◌, ◌⊎◌, List, length, get_or, Some, None, Option, sym, refl, ap, ◌∙◌, subst, inl, inr, arith}
use Rattle.std.proofs.lemmas.Map.{update_here, update_apart}
use Rattle.std.proofs.lemmas.Bool.{cases_eq}
use Rattle.network.specs.declared.types.Figures.{Figures}
use Rattle.network.specs.declared.types.Relation.{Relation}
use Rattle.network.specs.declared.types.Link.{Link}
use Rattle.network.specs.Rosters.{place}
use Rattle.network.specs.Sound.{Sound}
use Rattle.network.proofs.Somes.{none_some}
use Rattle.network.proofs.Rising.{rising, place_at}
use Rattle.measure.specs.declared.Measure.{Ghosts}
use Rattle.measure.specs.Measures.{Laws, AtMost}
use Rattle.legality.specs.declared.types.Class.{Class}
use Rattle.legality.specs.Tables.{Table}
use Rattle.legality.specs.Networks.{net_of}
use Rattle.legality.proofs.Links.{network_sound, step_joins}
use Rattle.waiting.specs.declared.types.Slot.{Slot}
use Rattle.waiting.specs.declared.list.Waiting as lists
use Rattle.waiting.specs.Lists.{held, room, memory}
use Rattle.waiting.specs.Calls.{Sets, Take}
use Rattle.labels.specs.Labels.{Waiting, Relaxing, Elsewhere, taken, size}
use Rattle.labels.proofs.Sizes.{size_bound}
use Rattle.labels.proofs.Turns.{begin, grows, finish, same_size, shortest}
use Rattle.table.specs.Columns.{pair, at_place, table}
use Rattle.settle.specs.declared.filling.Filling.{Filling}
use Rattle.settle.specs.declared.filling.pairs.Taken.{Taken}
use Rattle.settle.specs.States.{waits_of, rows_of, taken_of, Untouched, Between, Midway, Ended}
use Rattle.settle.proofs.Lifts.{waits_at, waits_here, waits_elsewhere, same_tidy}

-- what waits after a take waited before it
pub still_waits : {C : Type 0} {less : C → C → Bool} {held held' : ℕ → Option C} {room room' : ℕ} {memory memory' : List (Slot C)} (o : Option (Slot C)) → Take less held held' room room' memory memory' o → (p : ℕ) (k : C) → held' p ≡ Some k → held p ≡ Some k
still_waits None took p k h = sym (took.held_then p) ∙ h
still_waits {held = held} {held' = held'} (Some s) took p k h = go (cases_eq p s.place)
  where
    go : (p ≡ s.place) ⊎ (p ≢ s.place) → held p ≡ Some k
    go (inl z) = absurd (none_some (took.held_then s.place ∙ update_here held s.place None) (subst (λ q. held' q ≡ Some k) z h))
    go (inr n) = sym (update_apart held s.place None p n) ∙ sym (took.held_then p) ∙ h

-- The pair `from` is the least of what waits, and was taken: w waits then.
pub record Taking {X C : Type 0} {g : Ghosts X C} (x : Filling X C g) (w : lists.Waiting X C g) (from : Taken C) : Type 0 where
  pub waits : held x.waiting (pair from.place from.class) ≡ Some from.cost
  pub cheapest : (p : ℕ) (k : C) → held x.waiting p ≡ Some k → AtMost g.measure from.cost k
  pub gone : Sets (held x.waiting) (held w) (pair from.place from.class) None

pub taking : {X C : Type 0} {g : Ghosts X C} (x : Filling X C g) (w : lists.Waiting X C g) (slot : Slot C) (from : Taken C) →
    Take g.measure.less (held x.waiting) (held w) (room x.waiting) (room w) (memory x.waiting) (memory w) (Some slot) → (pair from.place from.class ≡ slot.place) × (from.cost ≡ slot.cost) → Taking x w from
taking {g = g} x w slot from took same =
    record {
      waits = ap (held x.waiting) same.0 ∙ took.answer.waits ∙ ap Some (sym same.1);
      cheapest = λ p k h. subst (λ v. AtMost g.measure v k) (sym same.1) (took.answer.cheapest p k h);
      gone = subst (λ z. Sets (held x.waiting) (held w) z None) (sym same.0) took.held_then;
    }

module _ {X C : Type 0} {g : Ghosts X C} (laws : Laws g.measure) (roster : List ℕ) (book : List Link) (sound : Sound roster book) (d : ℕ) where
  module _ (x : Filling X C g) (w : lists.Waiting X C g) (between : Between roster book d x) (from : Taken C) (t : Taking x w from) where
    pub known : from.place < length roster
    known = omega (arith, x.bounded (pair from.place from.class) from.cost t.waits, between.tidy.long)

    here : place roster (get_or roster from.place 0) ≡ Some from.place
    here = place_at roster (rising 0 roster sound.rising) from.place known

    waited : waits_of roster x.waiting (get_or roster from.place 0) from.class ≡ Some from.cost
    waited = waits_at roster x.waiting (get_or roster from.place 0) from.place from.class here ∙ t.waits

    cheapest : (a : ℕ) (e : Class) (k : C) → waits_of roster x.waiting a e ≡ Some k → AtMost g.measure from.cost k
    cheapest a e k = go (place roster a)
      where
        go : (o : Option ℕ) → at_place o (λ i. held x.waiting (pair i e)) ≡ Some k → AtMost g.measure from.cost k
        go None h = absurd (none_some refl h)
        go (Some i) h = t.cheapest (pair i e) k h

    over : waits_of roster w (get_or roster from.place 0) from.class ≡ None
    over = waits_here roster x.waiting w (get_or roster from.place 0) from.place from.class here None t.gone

    same_w : Elsewhere (waits_of roster x.waiting) (waits_of roster w) (get_or roster from.place 0) from.class
    same_w = waits_elsewhere roster x.waiting w (get_or roster from.place 0) from.place from.class here None t.gone

    -- what is taken then
    abbrev pub left : Table C
    left = taken (rows_of roster x) (waits_of roster w)

    abbrev On : Table C → Waiting C → Type 0
    On = Relaxing g.measure (net_of roster book) d (get_or roster from.place 0) from.class from.cost left (Untouched book 0 (get_or roster from.place 0))

    pub begun : (x' : Filling X C g) → x'.column.now ≡ x.column.now → x'.waiting ≡ w → Midway roster book from 0 d left x'
    begun x' same is =
        record {
          tidy = same_tidy roster x x' same between.tidy;
          relaxing = subst (λ v. On (rows_of roster x') (waits_of roster v)) (sym is) (subst (λ l. On (table g.measure.start roster l) (waits_of roster w)) (sym same)
              (begin laws (network_sound roster book sound) d (rows_of roster x) (waits_of roster x.waiting) between.going (get_or roster from.place 0) from.class from.cost waited cheapest (waits_of roster w) over same_w
              (Untouched book 0 (get_or roster from.place 0)) (λ a y i l lt. absurd (omega arith))));
        }

    pub more : size (taken_of roster x) roster < size left roster
    more = grows laws (network_sound roster book sound) d (rows_of roster x) (waits_of roster x.waiting) between.going (get_or roster from.place 0) from.class from.cost waited cheapest (waits_of roster w) over same_w

  -- All links have been gone through.
  module _ (from : Taken C) (q : Table C) (x : Filling X C g) (midway : Midway roster book from (length book) d q x) where
    none_left : (a : ℕ) (y : Class) (relation : Relation) (f : Figures) → Untouched book (length book) (get_or roster from.place 0) a y → (net_of roster book).step a (get_or roster from.place 0) ≡ Some (relation, f) → ⊥
    none_left a y relation f fresh h = let j = step_joins roster book sound a (get_or roster from.place 0) relation f h in fresh j.0 j.1 j.2 j.3 j.4

    pub ended : Between roster book d x
    ended =
        record {
          tidy = midway.tidy;
          going = finish laws (network_sound roster book sound) d (get_or roster from.place 0) from.class from.cost q (Untouched book (length book) (get_or roster from.place 0)) (rows_of roster x) (waits_of roster x.waiting) midway.relaxing none_left;
        }

    -- the measure falls
    pub falls : (before : ℕ) → before < size q roster → 2 * length roster - size (taken_of roster x) roster < 2 * length roster - before
    falls before h = omega (arith, ended_size, size_bound (taken_of roster x) roster)
      where
        ended_size : size (taken_of roster x) roster ≡ size q roster
        ended_size = same_size laws (network_sound roster book sound) d (get_or roster from.place 0) from.class from.cost q (Untouched book (length book) (get_or roster from.place 0)) (rows_of roster x) (waits_of roster x.waiting) midway.relaxing none_left

  -- Where nothing is left to take, the column has the shortest paths.
  pub settled : (x : Filling X C g) (w : lists.Waiting X C g) → Between roster book d x → Take g.measure.less (held x.waiting) (held w) (room x.waiting) (room w) (memory x.waiting) (memory w) None → Ended g.measure roster book d x.column.now
  settled x w between took = record { shortest = shortest laws (network_sound roster book sound) d (rows_of roster x) (waits_of roster x.waiting) between.going idle; rows = between.tidy.rows }
    where
      idle : (a : ℕ) (e : Class) → waits_of roster x.waiting a e ≡ None
      idle a e = go (place roster a)
        where
          go : (o : Option ℕ) → at_place o (λ i. held x.waiting (pair i e)) ≡ None
          go None = refl
          go (Some i) = took.answer (pair i e)
