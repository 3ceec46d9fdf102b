-- The rows of a grid store, and the cells of all of them. Assumes nothing.
use Rattle.std.proofs.Common.{◌≡◌, ℕ, true, zero, suc, ◌+◌, ◌-◌, ◌*◌, ◌<◌, ◌≤◌, List, [], ◌∷◌, ◌++◌, length, get_or, drop, set, replicate, Some, None, Option, sym, refl, ap, subst, ◌∙◌, arith}
use Rattle.std.specs.List.{flat_map, sum_by}
use Rattle.std.specs.Int.{from_bool}
use Rattle.std.specs.Option.{option_to_list, is_some}
use Rattle.std.proofs.lemmas.List.{length-append, get_or_append_left, get_or-append-add, set-append_left, set-append_right, drop_more, replicate-append-replicate}
use Rattle.std.proofs.lemmas.List.Concat.{flat_map-append}
use Rattle.std.proofs.lemmas.List.Sums.{sum_by-cons}
use Rattle.network.specs.declared.types.Link.{Link}
use Rattle.stores.specs.declared.grid.rows.GridRow.{GridRow}
use Rattle.stores.specs.Cells.{filled, fit}
use Rattle.stores.specs.CellsLemmas.{fit_empty, filled_empty}

abbrev pub cells_in : List GridRow → List (Option Link)
cells_in rows = flat_map (λ r. r.cells) rows

pub cells_length : (rows : List GridRow) → length (cells_in rows) ≡ 24 * length rows
cells_length [] = refl
cells_length (r ∷ rows) = omega (arith, length-append r.cells (cells_in rows), cells_length rows, r.sized)

-- the cells of rows without links
bare_cells : (rows : List GridRow) → ((i : ℕ) (d : GridRow) → i < length rows → (get_or rows i d).cells ≡ replicate 24 None) → cells_in rows ≡ replicate (24 * length rows) None
bare_cells [] h = refl
bare_cells (r ∷ rows) h =
    let more : 24 + 24 * length rows ≡ 24 * suc (length rows) = omega arith in
    ap (λ cs. cs ++ cells_in rows) (h 0 r (omega arith)) ∙
    ap (λ cs. replicate 24 None ++ cs) (bare_cells rows (λ i d k. h (suc i) d (omega (arith, k)))) ∙
    replicate-append-replicate 24 (24 * length rows) None ∙
    ap (λ n. replicate n None) more

-- .. fit any roster, and there is no link in them
module _ (rows : List GridRow) (h : (i : ℕ) (d : GridRow) → i < length rows → (get_or rows i d).cells ≡ replicate 24 None) where
  pub bare_fit : (roster : List ℕ) → fit roster 0 (cells_in rows) ≡ true
  bare_fit roster = subst (λ cells. fit roster 0 cells ≡ true) (sym (bare_cells rows h)) (fit_empty roster 0 (24 * length rows))

  pub bare_filled : filled (cells_in rows) ≡ []
  bare_filled = ap filled (bare_cells rows h) ∙ filled_empty (24 * length rows)

-- the cell j of the row i
pub cell_read : (rows : List GridRow) (i j : ℕ) (d : GridRow) → i < length rows → j < 24 → get_or (cells_in rows) (24 * i + j) None ≡ get_or (get_or rows i d).cells j None
cell_read [] i j d h k = absurd (omega arith)
cell_read (r ∷ rows) zero j d h k =
    let n = r.sized in
    let there : 24 * 0 + j ≡ j = omega arith in
    ap (λ n. get_or (cells_in (r ∷ rows)) n None) there ∙ get_or_append_left r.cells (cells_in rows) None j (omega arith)
cell_read (r ∷ rows) (suc i) j d h k =
    let there : 24 * suc i + j ≡ length r.cells + (24 * i + j) = omega (arith, r.sized) in
    ap (λ n. get_or (cells_in (r ∷ rows)) n None) there ∙ get_or-append-add r.cells (cells_in rows) (24 * i + j) None ∙ cell_read rows i j d (omega arith) k

pub cell_written : (rows : List GridRow) (i j : ℕ) (d new : GridRow) (v : Option Link) → i < length rows → j < 24 → new.cells ≡ set (get_or rows i d).cells j v → cells_in (set rows i new) ≡ set (cells_in rows) (24 * i + j) v
cell_written [] i j d new v h k e = absurd (omega arith)
cell_written (r ∷ rows) zero j d new v h k e =
    let n = r.sized in
    let there : j ≡ 24 * 0 + j = omega arith in
    ap (λ cs. cs ++ cells_in rows) e ∙ sym (set-append_left r.cells (cells_in rows) j v (omega arith)) ∙ ap (λ n. set (cells_in (r ∷ rows)) n v) there
cell_written (r ∷ rows) (suc i) j d new v h k e =
    let there : 24 * suc i + j - 24 ≡ 24 * i + j = omega arith in
    ap (λ cs. r.cells ++ cs) (cell_written rows i j d new v (omega arith) k e ∙ ap (λ n. set (cells_in rows) n v) (sym there)) ∙ sym (set-append_right r.cells (cells_in rows) 24 (24 * suc i + j) v r.sized (omega arith))

-- the links from the row i on: those of the row, and those from the next row on
pub links_from : (rows : List GridRow) (i : ℕ) (d : GridRow) → i < length rows → filled (cells_in (drop i rows)) ≡ filled (get_or rows i d).cells ++ filled (cells_in (drop (i + 1) rows))
links_from rows i d h = ap (λ rs. filled (cells_in rs)) (drop_more rows i d h) ∙ flat_map-append option_to_list (get_or rows i d).cells (cells_in (drop (i + 1) rows))

-- the links of all rows
pub tallies : (rows : List GridRow) → sum_by (λ r. r.tally) rows ≡ length (filled (cells_in rows))
tallies [] = refl
tallies (r ∷ rows) =
    omega (arith, sum_by-cons (λ r. r.tally) r rows, tallies rows, r.tallied, ap length (flat_map-append option_to_list r.cells (cells_in rows)), length-append (filled r.cells) (filled (cells_in rows)))

pub filled_length : (cells : List (Option Link)) → length (filled cells) ≤ length cells
filled_length [] = omega arith
filled_length (None ∷ cells) = omega (arith, filled_length cells)
filled_length (Some l ∷ cells) = omega (arith, filled_length cells)

-- a write to a cell: the links that there are, by what comes and what goes
pub filled_written : (cells : List (Option Link)) (i : ℕ) (v : Option Link) → i < length cells → length (filled (set cells i v)) + from_bool (is_some (get_or cells i None)) ≡ length (filled cells) + from_bool (is_some v)
filled_written [] i v h = absurd (omega arith)
filled_written (None ∷ cells) zero None h = refl
filled_written (None ∷ cells) zero (Some l) h = omega arith
filled_written (Some x ∷ cells) zero None h = omega arith
filled_written (Some x ∷ cells) zero (Some l) h = refl
filled_written (None ∷ cells) (suc i) v h = filled_written cells i v (omega arith)
filled_written (Some x ∷ cells) (suc i) v h = omega (arith, filled_written cells i v (omega arith))

-- a cell holds one link or none
pub held_few : (v : Option Link) → from_bool (is_some v) ≤ 1
held_few None = omega arith
held_few (Some l) = omega arith
