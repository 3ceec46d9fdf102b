-- A column within the table memory. Assumes nothing.
use Rattle.std.specs.List.{between}
use Rattle.std.proofs.Common.{◌≡◌, ℕ, ◌+◌, ◌-◌, ◌*◌, ◌<◌, ◌≤◌, ◌⊎◌, false, List, length, get_or, take, drop, set, Some, None, Option, sym, refl, ap, ◌∙◌, subst, inl, inr, arith}
use borrow.Rule.Slice.PartMut.{put_mid, same_len_mid}
use Rattle.std.proofs.lemmas.List.{get_or-take, get_or-drop, length-take-le, length-drop}
use Rattle.std.proofs.lemmas.List.Edits.{get_or-between}
use Rattle.std.proofs.lemmas.Slice.{between-put_mid, drop-put_mid, take-put_mid_below}
use Rattle.std.proofs.lemmas.Bool.{cond-false, or_from, le-ltb}
use Rattle.network.specs.declared.types.Link.{Link}
use Rattle.network.specs.Rosters.{place}
use Rattle.network.proofs.Rising.{place_stands}
use Rattle.measure.specs.Measures.{Measure}
use Rattle.legality.specs.declared.types.Class.{Class}
use Rattle.legality.specs.Networks.{net_of}
use Rattle.legality.specs.Tables.{Global}
use Rattle.legality.proofs.Entries.{global_by}
use Rattle.waiting.specs.declared.types.Slot.{Slot}
use Rattle.table.specs.declared.types.Entry.{Entry}
use Rattle.table.specs.Columns.{blank, read, pair, at_place, table, filled, Row}
use Rattle.table.specs.Memory.{small, index, decoded, column_of}
use Rattle.table.proofs.Pairs.{halves, pair_below}
use Rattle.table.proofs.Cells.{index_is}
use Rattle.settle.specs.States.{Ended}
use Rattle.settle.specs.Memory.{Memory}
use Rattle.settle.specs.Settled.{tight, unknown, cause, Fills}

less : (x y : ℕ) → y ≡ x + y - x
less x y = omega arith

module _ {C : Type 0} (m : Measure C) (roster : List ℕ) (book : List Link) (a d : ℕ) (here : place roster a ≡ Some d) (entries column : List (Entry C)) (long : length column ≡ 2 * length roster)
    (first k : ℕ) (start : first ≡ 2 * length roster * d) (size : k ≡ 2 * length roster) (fits : first + 2 * length roster ≤ length entries) where
  abbrev s : Entry C
  s = blank m.start

  abbrev n : ℕ
  n = length roster

  abbrev after : List (Entry C)
  after = put_mid first k entries column

  part : between first (first + 2 * n) after ≡ column
  part = between-put_mid first k entries column (first + 2 * n) (omega arith) (long ∙ less first (2 * n))

  at_column : (j : ℕ) → j < 2 * n → get_or after (first + j) s ≡ get_or column j s
  at_column j h = sym (get_or-between after first (first + 2 * n) j s (omega arith)) ∙ ap (λ l. get_or l j s) part

  below : (p : ℕ) → p < first → get_or after p s ≡ get_or entries p s
  below p h = sym (get_or-take first after p s h) ∙ ap (λ l. get_or l p s) (take-put_mid_below first k entries column first (omega arith) (omega arith)) ∙ get_or-take first entries p s h

  above : (p : ℕ) → first + 2 * n ≤ p → get_or after p s ≡ get_or entries p s
  above p h =
      let e : first + 2 * n + (p - (first + 2 * n)) ≡ p = omega arith in
      subst (λ q. get_or after q s ≡ get_or entries q s) e
      (sym (get_or-drop (first + 2 * n) after (p - (first + 2 * n)) s) ∙
      ap (λ l. get_or l (p - (first + 2 * n)) s) (drop-put_mid first k entries column (first + 2 * n) (omega arith) (omega arith) (long ∙ sym size)) ∙
      get_or-drop (first + 2 * n) entries (p - (first + 2 * n)) s)

  at_first : (i : ℕ) (e : Class) → index n d i e ≡ first + pair i e
  at_first i e = omega (arith, index_is n d i e, start)

  at_index : (i : ℕ) (e : Class) → i < length roster → get_or after (index n d i e) s ≡ get_or column (pair i e) s
  at_index i e h = ap (λ z. get_or after z s) (at_first i e) ∙ at_column (pair i e) (pair_below i n e h)

  same_table : (x : ℕ) (e : Class) → decoded m roster d after x e ≡ table m.start roster column x e
  same_table x e = go (place roster x) refl
    where
      go : (o : Option ℕ) → place roster x ≡ o → at_place o (λ i. read roster (get_or after (index n d i e) s)) ≡ at_place o (λ i. read roster (get_or column (pair i e) s))
      go None q = refl
      go (Some i) q = ap (read roster) (at_index i e (place_stands roster x i q).within)

  outside : (p : ℕ) → ((i : ℕ) (e : Class) → i < length roster → p ≡ index (length roster) d i e → ⊥) → get_or after p s ≡ get_or entries p s
  outside p never = go (order p first) (order p (first + 2 * n))
    where
      order : (x y : ℕ) → (x < y) ⊎ (y ≤ x)
      order x y = grind arith

      half : (i : ℕ) (e : Class) (j : ℕ) → j ≡ pair i e → j < 2 * n → i < n
      half i e j q l = omega arith

      go : (p < first) ⊎ (first ≤ p) → (p < first + 2 * n) ⊎ (first + 2 * n ≤ p) → get_or after p s ≡ get_or entries p s
      go (inl h) k = below p h
      go (inr h) (inr l) = above p l
      go (inr h) (inl l) =
          let z = halves (p - first) in
          absurd (never z.0 z.1 (half z.0 z.1 (p - first) z.2 (omega arith)) (omega (arith, at_first z.0 z.1, z.2)))

  counted : column_of n d after ≡ column
  counted = ap (λ z. take (2 * n) (drop z after)) (sym start) ∙ ap (λ z. take z (drop first after)) (less first (2 * n)) ∙ part

  long_after : length after ≡ length entries
  long_after = same_len_mid first k entries column (long ∙ sym size ∙ sym (length-take-le k (drop first entries) (let e = length-drop first entries in omega arith)))

  -- k' slots of the work memory were lent, and hold `used` now
  pub fills : (marks : List ℕ) (waiting used : List (Slot C)) (numbers : List ℕ) (k' count : ℕ) → Ended m roster book (get_or roster d 0) column → count ≡ filled column →
      k' ≡ 2 * length roster → length used ≡ 2 * length roster → 2 * length roster ≤ length waiting →
      Fills m roster book a d (record { entries = entries; marks = marks; waiting = waiting; numbers = numbers })
      (record { entries = put_mid first k entries column; marks = set marks d 1; waiting = put_mid 0 k' waiting used; numbers = numbers }) count
  fills marks waiting used numbers k' count done total lent short enough =
      record {
        column = record {
          shortest = global_by m (net_of roster book) (table m.start roster column) (decoded m roster d after) a same_table (subst (Global m (net_of roster book) (table m.start roster column)) (place_stands roster a d here).is done.shortest);
          rows = λ i e h. subst (Row m.start n) (sym (at_index i e h)) (done.rows (pair i e) s (let l = pair_below i n e h in omega arith));
        };
        counted = total ∙ ap filled (sym counted);
        others = outside;
        long = long_after;
        marked = refl;
        slots = same_len_mid 0 k' waiting used (short ∙ sym lent ∙ sym (length-take-le k' waiting (omega arith)));
        beyond = drop-put_mid 0 k' waiting used (2 * n) (omega arith) (omega arith) (omega arith);
        numbers = refl;
      }

-- memory that is large enough, and a known AS: nothing to refuse
pub no_cause : {C : Type 0} (roster : List ℕ) (a d : ℕ) (memory : Memory C) → small (length roster) memory.entries memory.marks ≡ false →
    2 * length roster ≤ length memory.waiting → 2 * length roster ≤ length memory.numbers → place roster a ≡ Some d → cause roster a memory ≡ None
no_cause roster a d memory large waiting numbers here =
    let n = length roster in
    cond-false (small n memory.entries memory.marks) _ _ large ∙
    cond-false (tight n memory) _ _ (or_from _ _ (le-ltb (length memory.waiting) (2 * n) waiting) (le-ltb (length memory.numbers) (2 * n) numbers)) ∙
    ap unknown here
