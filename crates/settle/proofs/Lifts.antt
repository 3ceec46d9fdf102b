-- From a column that is being filled to tables: what an offer to a pair of it is to the method. Assumes nothing.
use Rattle.std.proofs.Common.{◌≡◌, ℕ, ◌<◌, ◌≤◌, true, ◌≢◌, ◌⊎◌, List, length, get_or, set, Some, None, Option, sym, refl, ap, ◌∙◌, subst, inl, inr, arith}
use Rattle.std.proofs.lemmas.List.{length-set, get_or-set_same, get_or-set_other}
use Rattle.std.proofs.lemmas.List.Elements.{All-set}
use Rattle.std.proofs.lemmas.Map.{update_here, update_apart}
use Rattle.network.specs.declared.types.Figures.{Figures}
use Rattle.network.specs.declared.types.Relation.{Relation}
use Rattle.network.specs.declared.types.Link.{Link}
use Rattle.network.specs.Rosters.{place}
use Rattle.network.specs.Sound.{Sound}
use Rattle.network.proofs.Rising.{Rising, rising, place_stands}
use Rattle.measure.specs.declared.Measure.{Ghosts}
use Rattle.measure.specs.Measures.{Laws}
use Rattle.legality.specs.declared.types.Class.{Class}
use Rattle.legality.specs.Classes.{allowed}
use Rattle.legality.specs.Tables.{Table}
use Rattle.legality.specs.Networks.{net_of}
use Rattle.legality.proofs.Links.{network_sound}
use Rattle.waiting.specs.declared.list.Waiting as lists
use Rattle.waiting.specs.Lists.{held}
use Rattle.waiting.specs.Calls.{Sets}
use Rattle.waiting.proofs.Rooms.{room_left}
use Rattle.labels.specs.Labels.{Outcome, Elsewhere, Less}
use Rattle.labels.proofs.Steps.{may_lower, blank_idle, relax_step}
use Rattle.table.specs.declared.types.Entry.{Entry}
use Rattle.table.specs.Columns.{entry, blank, read, pair, at_place, Row}
use Rattle.table.proofs.Rows.{read_blank, read_filled, row_below}
use Rattle.table.proofs.Pairs.{pair_inj, pair_below}
use Rattle.settle.specs.declared.filling.Filling.{Filling}
use Rattle.settle.specs.States.{waits_of, rows_of, Rows, Tidy, Relaxed}
use Rattle.settle.specs.Offers.{entry_at, Ready, Offered}

-- two pairs of one number are one
same_pair : (roster : List ℕ) (a i b j : ℕ) (e y : Class) → place roster a ≡ Some i → place roster b ≡ Some j → pair j y ≡ pair i e → (b ≡ a) × (y ≡ e)
same_pair roster a i b j e y p q h =
    let both = pair_inj j i y e h in
    (sym (place_stands roster b j q).is ∙ ap (λ k. get_or roster k 0) both.0 ∙ (place_stands roster a i p).is, both.1)

module _ {X C : Type 0} {g : Ghosts X C} (roster : List ℕ) where
  pub rows_at : (x : Filling X C g) (a i : ℕ) (e : Class) → place roster a ≡ Some i → rows_of roster x a e ≡ read roster (entry_at x (pair i e))
  rows_at x a i e p = ap (λ o. at_place o (λ j. read roster (entry_at x (pair j e)))) p

  pub waits_at : (w : lists.Waiting X C g) (a i : ℕ) (e : Class) → place roster a ≡ Some i → waits_of roster w a e ≡ held w (pair i e)
  waits_at w a i e p = ap (λ o. at_place o (λ j. held w (pair j e))) p

  -- one entry of the column is set
  module _ (x x' : Filling X C g) (a i : ℕ) (e : Class) (here : place roster a ≡ Some i) where
    pub rows_elsewhere : (v : Entry C) → x'.column.now ≡ set x.column.now (pair i e) v → Elsewhere (rows_of roster x) (rows_of roster x') a e
    rows_elsewhere v is b y n = go (place roster b) refl
      where
        go : (o : Option ℕ) → place roster b ≡ o → at_place o (λ j. read roster (entry_at x' (pair j y))) ≡ at_place o (λ j. read roster (entry_at x (pair j y)))
        go None q = refl
        go (Some j) q =
            ap (λ l. read roster (get_or l (pair j y) (blank g.measure.start))) is ∙
            ap (read roster) (get_or-set_other x.column.now (pair i e) (pair j y) v (blank g.measure.start) (λ h. n (same_pair roster a i b j e y here q h)))

    pub rows_here : (v : Entry C) → x'.column.now ≡ set x.column.now (pair i e) v → pair i e < length x.column.now → rows_of roster x' a e ≡ read roster v
    rows_here v is inside =
        rows_at x' a i e here ∙ ap (λ l. read roster (get_or l (pair i e) (blank g.measure.start))) is ∙
        ap (read roster) (get_or-set_same x.column.now (pair i e) v (blank g.measure.start) inside)

  -- one place of what waits is set
  module _ (w w' : lists.Waiting X C g) (a i : ℕ) (e : Class) (here : place roster a ≡ Some i) where
    pub waits_elsewhere : (v : Option C) → Sets (held w) (held w') (pair i e) v → Elsewhere (waits_of roster w) (waits_of roster w') a e
    waits_elsewhere v sets b y n = go (place roster b) refl
      where
        go : (o : Option ℕ) → place roster b ≡ o → at_place o (λ j. held w' (pair j y)) ≡ at_place o (λ j. held w (pair j y))
        go None q = refl
        go (Some j) q = sets (pair j y) ∙ update_apart (held w) (pair i e) v (pair j y) (λ h. n (same_pair roster a i b j e y here q h))

    pub waits_here : (v : Option C) → Sets (held w) (held w') (pair i e) v → waits_of roster w' a e ≡ v
    waits_here v sets = waits_at w' a i e here ∙ sets (pair i e) ∙ update_here (held w) (pair i e) v

  -- an entry with a next place of the roster is set
  pub set_tidy : (x x' : Filling X C g) (p : ℕ) (v : Entry C) → x'.column.now ≡ set x.column.now p v → v.next < length roster → Tidy roster x → Tidy roster x'
  set_tidy x x' p v is low tidy =
      record {
        long = ap length is ∙ length-set x.column.now p v ∙ tidy.long;
        rows = subst (Rows g.measure.start (length roster)) (sym is) (All-set (Row g.measure.start (length roster)) x.column.now p v (inr low) tidy.rows);
      }

  pub same_tidy : (x x' : Filling X C g) → x'.column.now ≡ x.column.now → Tidy roster x → Tidy roster x'
  same_tidy x x' p tidy = record { long = ap length p ∙ tidy.long; rows = subst (Rows g.measure.start (length roster)) (sym p) tidy.rows }

-- An offer to (a, e), whose next place is one of the roster.
module _ {X C : Type 0} {g : Ghosts X C} (roster : List ℕ) (few : length roster ≤ 512) (rising : Rising roster) (offer : Entry C) (known : offer.next < length roster)
    (a i : ℕ) (e : Class) (here : place roster a ≡ Some i) (x x' : Filling X C g) (inside : pair i e < length x.column.now) (tidy : Tidy roster x) where
  abbrev old : Entry C
  old = entry_at x (pair i e)

  next_low : old.next ≢ 65535 → old.next < length roster
  next_low n = row_below g.measure.start (length roster) old (tidy.rows (pair i e) (blank g.measure.start) inside) n

  was : old.next ≢ 65535 → rows_of roster x a e ≡ Some (get_or roster old.next 0, old.cost)
  was n = rows_at roster x a i e here ∙ read_filled roster old n

  same : x'.column.now ≡ x.column.now → (b : ℕ) (y : Class) → rows_of roster x' b y ≡ rows_of roster x b y
  same p b y = ap (λ l. at_place (place roster b) (λ j. read roster (get_or l (pair j y) (blank g.measure.start)))) p

  written : x'.column.now ≡ set x.column.now (pair i e) offer → rows_of roster x' a e ≡ Some (get_or roster offer.next 0, offer.cost)
  written p = rows_here roster x x' a i e here offer p inside ∙ read_filled roster offer (λ z. omega arith)

  still : held x'.waiting ≡ held x.waiting → (b : ℕ) (y : Class) → waits_of roster x'.waiting b y ≡ waits_of roster x.waiting b y
  still p b y = ap (λ f. at_place (place roster b) (λ j. f (pair j y))) p

  pub outcome : Offered offer (pair i e) x x' → Outcome g.measure (rows_of roster x a e) (waits_of roster x.waiting a e) (get_or roster offer.next 0) offer.cost (rows_of roster x' a e) (waits_of roster x'.waiting a e)
  outcome (Offered.puts n p sets) = Outcome.fresh (rows_at roster x a i e here ∙ read_blank roster old n) (written p) (waits_here roster x.waiting x'.waiting a i e here (Some offer.cost) sets)
  outcome (Offered.lowers n l p sets) = Outcome.lower (get_or roster old.next 0) old.cost (was n) l (written p) (waits_here roster x.waiting x'.waiting a i e here (Some offer.cost) sets)
  outcome (Offered.dearer n l p q) = Outcome.dearer (get_or roster old.next 0) old.cost (was n) l (same p a e ∙ was n) (still q a e)
  outcome (Offered.turns n k l p q) =
      Outcome.tied (get_or roster old.next 0) (get_or roster offer.next 0) (was n ∙ ap (λ c. Some (get_or roster old.next 0, c)) k) (written p) (omega arith)
      (let lt = rising offer.next old.next l (next_low n) in omega arith) (inl refl) (still q a e)
  outcome (Offered.stays n k l p q) =
      Outcome.tied (get_or roster old.next 0) (get_or roster old.next 0) (was n ∙ ap (λ c. Some (get_or roster old.next 0, c)) k) (same p a e ∙ was n ∙ ap (λ c. Some (get_or roster old.next 0, c)) k)
      (go (order old.next offer.next)) (omega arith) (inr refl) (still q a e)
    where
      order : (x y : ℕ) → (x < y) ⊎ ((x ≡ y) ⊎ (y < x))
      order x y = grind arith

      go : (old.next < offer.next) ⊎ ((old.next ≡ offer.next) ⊎ (offer.next < old.next)) → get_or roster old.next 0 ≤ get_or roster offer.next 0
      go (inl z) = let lt = rising old.next offer.next z known in omega arith
      go (inr (inl z)) = let eq = ap (λ j. get_or roster j 0) z in omega arith
      go (inr (inr z)) = absurd (omega arith)

  -- the column has the offer now, or is as it was; and so what waits
  column_after : Offered offer (pair i e) x x' → (x'.column.now ≡ set x.column.now (pair i e) offer) ⊎ (x'.column.now ≡ x.column.now)
  column_after (Offered.puts n p q) = inl p
  column_after (Offered.lowers n l p q) = inl p
  column_after (Offered.dearer n l p q) = inr p
  column_after (Offered.turns n k l p q) = inl p
  column_after (Offered.stays n k l p q) = inr p

  waits_after : Offered offer (pair i e) x x' → Sets (held x.waiting) (held x'.waiting) (pair i e) (Some offer.cost) ⊎ (held x'.waiting ≡ held x.waiting)
  waits_after (Offered.puts n p q) = inl q
  waits_after (Offered.lowers n l p q) = inl q
  waits_after (Offered.dearer n l p q) = inr q
  waits_after (Offered.turns n k l p q) = inr q
  waits_after (Offered.stays n k l p q) = inr q

  pub offered_rows : Offered offer (pair i e) x x' → Elsewhere (rows_of roster x) (rows_of roster x') a e
  offered_rows o = go (column_after o)
    where
      go : (x'.column.now ≡ set x.column.now (pair i e) offer) ⊎ (x'.column.now ≡ x.column.now) → Elsewhere (rows_of roster x) (rows_of roster x') a e
      go (inl p) = rows_elsewhere roster x x' a i e here offer p
      go (inr p) = λ b y n. same p b y

  pub offered_waits : Offered offer (pair i e) x x' → Elsewhere (waits_of roster x.waiting) (waits_of roster x'.waiting) a e
  offered_waits o = go (waits_after o)
    where
      go : Sets (held x.waiting) (held x'.waiting) (pair i e) (Some offer.cost) ⊎ (held x'.waiting ≡ held x.waiting) → Elsewhere (waits_of roster x.waiting) (waits_of roster x'.waiting) a e
      go (inl q) = waits_elsewhere roster x.waiting x'.waiting a i e here (Some offer.cost) q
      go (inr q) = λ b y n. still q b y

  pub offered_tidy : Offered offer (pair i e) x x' → Tidy roster x'
  offered_tidy o = go (column_after o)
    where
      go : (x'.column.now ≡ set x.column.now (pair i e) offer) ⊎ (x'.column.now ≡ x.column.now) → Tidy roster x'
      go (inl p) = set_tidy roster x x' (pair i e) offer p known tidy
      go (inr p) = same_tidy roster x x' p tidy

-- The same with all that holds on the way: the AS at `from` was taken at the cost c, and (relation, figures) leads from a to it.
module _ {X C : Type 0} {g : Ghosts X C} (laws : Laws g.measure) (roster : List ℕ) (book : List Link) (sound : Sound roster book)
    (d from : ℕ) (known : from < length roster) (e' : Class) (c : C) (q : Table C) (Fresh : ℕ → Class → Type 0) (x : Filling X C g) (r : Relaxed roster book d (get_or roster from 0) e' c q Fresh x)
    (a i : ℕ) (e : Class) (here : place roster a ≡ Some i) (relation : Relation) (figures : Figures) (linked : (net_of roster book).step a (get_or roster from 0) ≡ Some (relation, figures)) where
  pub pair_inside : pair i e < length x.column.now
  pair_inside = let h = pair_below i (length roster) e (place_stands roster a i here).within in omega (arith, r.tidy.long)

  pub ready : Ready x (pair i e) (g.measure.extend c figures)
  ready = record { idle = idle; free = λ n. room_left x.waiting (length x.column.now) (pair i e) pair_inside x.bounded (idle n) x.spacious; lowers = lowering }
    where
      idle : (entry_at x (pair i e)).next ≡ 65535 → held x.waiting (pair i e) ≡ None
      idle n =
          sym (waits_at roster x.waiting a i e here) ∙
          blank_idle laws (network_sound roster book sound) d (get_or roster from 0) e' c q Fresh (rows_of roster x) (waits_of roster x.waiting) r.relaxing a e relation figures linked
          (rows_at roster x a i e here ∙ read_blank roster (entry_at x (pair i e)) n)

      lowering : (entry_at x (pair i e)).next ≢ 65535 → g.measure.less (g.measure.extend c figures) (entry_at x (pair i e)).cost ≡ true → held x.waiting (pair i e) ≡ Some (entry_at x (pair i e)).cost
      lowering n l =
          sym (waits_at roster x.waiting a i e here) ∙
          may_lower laws (network_sound roster book sound) d (get_or roster from 0) e' c q Fresh (rows_of roster x) (waits_of roster x.waiting) r.relaxing a e relation figures linked
          (get_or roster (entry_at x (pair i e)).next 0) (entry_at x (pair i e)).cost
          (rows_at roster x a i e here ∙ read_filled roster (entry_at x (pair i e)) n) l

  pub relaxed : allowed e relation ≡ Some e' → (x' : Filling X C g) → Offered (entry from (g.measure.extend c figures)) (pair i e) x x' → Relaxed roster book d (get_or roster from 0) e' c q (Less Fresh a e) x'
  relaxed permitted x' o =
      let few = sound.few in
      let up = rising 0 roster sound.rising in
      let offer = entry from (g.measure.extend c figures) in
      record {
        tidy = offered_tidy roster few up offer known a i e here x x' pair_inside r.tidy o;
        relaxing = relax_step laws (network_sound roster book sound) d (get_or roster from 0) e' c q Fresh (rows_of roster x) (waits_of roster x.waiting) r.relaxing a e relation figures linked permitted (rows_of roster x') (waits_of roster x'.waiting)
            (outcome roster few up offer known a i e here x x' pair_inside r.tidy o)
            (offered_rows roster few up offer known a i e here x x' pair_inside r.tidy o)
            (offered_waits roster few up offer known a i e here x x' pair_inside r.tidy o);
      }
