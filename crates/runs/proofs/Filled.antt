-- A column more is filled, and the table memory holds it with the others. Assumes nothing.
use Rattle.std.proofs.Common.{◌≡◌, ℕ, suc, ◌+◌, ◌*◌, ◌<◌, ◌≤◌, ◌||◌, eqb, ltb, ◌≢◌, ◌⊎◌, List, ◌∷◌, length, get_or, Some, None, Option, sym, refl, ap, ◌∙◌, subst, subst₂, inl, inr, mul-le-mul_right, suc-mul, arith}
use Rattle.std.proofs.lemmas.Option.{same_Some}
use Rattle.std.proofs.lemmas.List.{length-set, get_or-set_same, get_or-set_other}
use Rattle.std.proofs.lemmas.Bool.{cases_eq, cases_lt, eq-eqb, ne_eqb}
use Rattle.network.specs.declared.types.Link.{Link}
use Rattle.network.specs.Rosters.{place}
use Rattle.network.proofs.Rising.{place_stands}
use Rattle.measure.specs.Measures.{Measure}
use Rattle.legality.specs.declared.types.Class.{Class}
use Rattle.legality.specs.Networks.{net_of}
use Rattle.legality.proofs.Entries.{global_by}
use Rattle.table.specs.declared.types.Entry.{Entry}
use Rattle.table.specs.Columns.{blank, read, at_place, Row}
use Rattle.table.specs.Memory.{index, decoded, Column}
use Rattle.table.proofs.Cells.{not_small}
use Rattle.table.proofs.Pairs.{pair_inj}
use Rattle.routes.specs.Routes.{has, Holds}
use Rattle.settle.specs.Memory.{Memory}
use Rattle.settle.specs.Settled.{Fills}

-- entries of two columns stand apart
index_apart : (n j j' i i' : ℕ) (e e' : Class) → i < n → i' < n → index n j i e ≡ index n j' i' e' → j ≡ j'
index_apart n j j' i i' e e' h h' q = go (cases_eq j j') (cases_lt j j')
  where
    cells : j * n + i ≡ j' * n + i'
    cells = (pair_inj (j * n + i) (j' * n + i') e e' (omega (arith, q))).0

    go : (j ≡ j') ⊎ (j ≢ j') → (j < j') ⊎ (j' ≤ j) → j ≡ j'
    go (inl z) s = z
    go (inr x) (inl l) = let le : suc j * n ≤ j' * n = mul-le-mul_right n l in absurd (omega (arith, cells, suc-mul j n, le))
    go (inr x) (inr l) = let less : suc j' ≤ j = omega arith in let le : suc j' * n ≤ j * n = mul-le-mul_right n less in absurd (omega (arith, cells, suc-mul j' n, le))

module _ {C : Type 0} (m : Measure C) (roster : List ℕ) (book : List Link) (settled : List ℕ) (before after : Memory C) (holds : Holds m roster book settled before.entries before.marks)
    (d j : ℕ) (here : place roster d ≡ Some j) (count : ℕ) (fills : Fills m roster book d j before after count) where
  kept : (j' i : ℕ) (e : Class) → j ≢ j' → i < length roster → get_or after.entries (index (length roster) j' i e) (blank m.start) ≡ get_or before.entries (index (length roster) j' i e) (blank m.start)
  kept j' i e n h = fills.others (index (length roster) j' i e) (λ i' e' h' q. n (sym (index_apart (length roster) j' j i i' e e' h h' q)))

  same_table : (j' : ℕ) → j ≢ j' → (a : ℕ) (e : Class) → decoded m roster j' after.entries a e ≡ decoded m roster j' before.entries a e
  same_table j' n a e = go (place roster a) refl
    where
      at : List (Entry C) → ℕ → Option (ℕ × C)
      at entries i = read roster (get_or entries (index (length roster) j' i e) (blank m.start))

      go : (o : Option ℕ) → place roster a ≡ o → at_place o (at after.entries) ≡ at_place o (at before.entries)
      go None q = refl
      go (Some i) q = ap (read roster) (kept j' i e n (place_stands roster a i q).within)

  mark_at : (j' : ℕ) → j ≢ j' → get_or after.marks j' 0 ≡ get_or before.marks j' 0
  mark_at j' n = ap (λ z. get_or z j' 0) fills.marked ∙ get_or-set_other before.marks j j' 1 0 (λ z. n (sym z))

  mark_here : get_or after.marks j 0 ≡ 1
  mark_here =
      let low : j < length before.marks = omega (arith, (not_small (length roster) before.entries before.marks holds.enough).1, (place_stands roster d j here).within) in
      ap (λ z. get_or z j 0) fills.marked ∙ get_or-set_same before.marks j 1 0 low

  same_as : (d' j' : ℕ) → place roster d' ≡ Some j' → j ≡ j' → d ≡ d'
  same_as d' j' h z = sym (place_stands roster d j here).is ∙ ap (λ k. get_or roster k 0) z ∙ (place_stands roster d' j' h).is

  column_after : (d' j' : ℕ) → place roster d' ≡ Some j' → get_or after.marks j' 0 ≡ 1 → Column m roster book after.entries d' j'
  column_after d' j' h k = go (cases_eq j j')
    where
      go : (j ≡ j') ⊎ (j ≢ j') → Column m roster book after.entries d' j'
      go (inl z) = subst₂ (λ a b. Column m roster book after.entries a b) (same_as d' j' h z) z fills.column
      go (inr n) =
          let old = holds.right d' j' h (sym (mark_at j' n) ∙ k) in
          record {
            shortest = global_by m (net_of roster book) (decoded m roster j' before.entries) (decoded m roster j' after.entries) d' (same_table j' n) old.shortest;
            rows = λ i e l. subst (Row m.start (length roster)) (sym (kept j' i e n l)) (old.rows i e l);
          }

  marked_after : (d' j' : ℕ) → place roster d' ≡ Some j' → has (d ∷ settled) d' ≡ eqb (get_or after.marks j' 0) 1
  marked_after d' j' h = go (cases_eq d d')
    where
      go : (d ≡ d') ⊎ (d ≢ d') → has (d ∷ settled) d' ≡ eqb (get_or after.marks j' 0) 1
      go (inl z) =
          let spot : j ≡ j' = same_Some _ _ (sym here ∙ ap (place roster) z ∙ h) in
          ap (λ b. b || has settled d') (eq-eqb d d' z) ∙ sym (eq-eqb (get_or after.marks j' 0) 1 (ap (λ k. get_or after.marks k 0) (sym spot) ∙ mark_here))
      go (inr n) = ap (λ b. b || has settled d') (ne_eqb d d' n) ∙ holds.marked d' j' h ∙ ap (λ k. eqb k 1) (sym (mark_at j' (λ z. n (same_as d' j' h z))))

  pub holds_more : Holds m roster book (d ∷ settled) after.entries after.marks
  holds_more =
      let n = length roster in
      record {
        enough = ap (λ k. ltb k (2 * n * n) || ltb (length after.marks) n) fills.long ∙ ap (λ k. ltb (length before.entries) (2 * n * n) || ltb k n) (ap length fills.marked ∙ length-set before.marks j 1) ∙ holds.enough;
        marked = marked_after;
        right = column_after;
      }
