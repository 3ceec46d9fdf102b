-- The cell of a pair of ASes of a grid store. Assumes nothing.
use Rattle.std.proofs.Common.{◌≡◌, ℕ, ◌/◌, ◌%◌, ◌<◌, ◌≤◌, min, max, ◌⊎◌, get_or, Some, None, sym, ap, ◌∙◌, subst, ⊎_elim, arith}
use Rattle.std.proofs.lemmas.Bool.{cases_lt}
use Rattle.network.specs.Rosters.{Among, place}
use Rattle.network.specs.Books.{link_of}
use Rattle.network.proofs.Rising.{place_stands}
use Rattle.network.proofs.Rosters.{place_none, places_ordered}
use Rattle.network.proofs.Books.{find_unknown}
use Rattle.stores.specs.declared.grid.cells.GridStore.{GridStore}
use Rattle.stores.specs.Grid.{grid_roster, grid_cells, grid_book}
use Rattle.stores.proofs.GridRows.{cells_length}
use Rattle.stores.specs.Cells.{cell_at}
use Rattle.stores.specs.CellsLemmas.{Pair, find_cell, cells_proper}

-- the cell of the places i and j
abbrev pub cell : ℕ → ℕ → ℕ
cell i j = cell_at (Some i) (Some j)

module _ (s : GridStore) where
  -- one of the ASes is not in the roster
  pub link_of_unknown : (a b : ℕ) → (place (grid_roster s) a ≡ None) ⊎ (place (grid_roster s) b ≡ None) → link_of (grid_book s) a b ≡ None
  link_of_unknown a b e =
      find_unknown (min a b) (max a b) (grid_roster s) (grid_book s) (cells_proper (grid_roster s) s.rising 0 (grid_cells s) s.placed) (λ h. let k = known h in ⊎_elim (λ p. place_none (grid_roster s) a p k.0) (λ p. place_none (grid_roster s) b p k.1) e)
    where
      known : (Among (min a b) (grid_roster s) × Among (max a b) (grid_roster s)) → Among a (grid_roster s) × Among b (grid_roster s)
      known h =
          ⊎_elim
          (λ (l : a < b).
          let x : min a b ≡ a = omega arith in
          let y : max a b ≡ b = omega arith in
          (subst (λ z. Among z (grid_roster s)) x h.0, subst (λ z. Among z (grid_roster s)) y h.1))
          (λ (l : b ≤ a).
          let x : min a b ≡ b = omega arith in
          let y : max a b ≡ a = omega arith in
          (subst (λ z. Among z (grid_roster s)) y h.1, subst (λ z. Among z (grid_roster s)) x h.0))
          (cases_lt a b)

  -- the ASes a and b stand at the places i and j
  module _ (a b i j : ℕ) (p : place (grid_roster s) a ≡ Some i) (q : place (grid_roster s) b ≡ Some j) where
    pub places_within : (i < 24) × (j < 24)
    places_within =
        let n = s.few in
        let hi = (place_stands (grid_roster s) a i p).within in
        let hj = (place_stands (grid_roster s) b j q).within in
        (omega arith, omega arith)

    pub pair_cell : Pair (grid_roster s) (cell i j) (min a b) (max a b)
    pair_cell =
        let x = place_stands (grid_roster s) a i p in
        let y = place_stands (grid_roster s) b j q in
        let hi = x.within in
        let hj = y.within in
        let n = s.few in
        let row : cell i j / 24 ≡ min i j = omega arith in
        let column : cell i j % 24 ≡ max i j = omega arith in
        let o = places_ordered (grid_roster s) s.rising i j hi hj in
        record {
          row = omega arith;
          column = omega arith;
          low_is = ap (λ z. min z b) (sym x.is) ∙ ap (min (get_or (grid_roster s) i 0)) (sym y.is) ∙ o.0 ∙ ap (λ k. get_or (grid_roster s) k 0) (sym row);
          high_is = ap (λ z. max z b) (sym x.is) ∙ ap (max (get_or (grid_roster s) i 0)) (sym y.is) ∙ o.1 ∙ ap (λ k. get_or (grid_roster s) k 0) (sym column);
        }

    pub link_of_cell : link_of (grid_book s) a b ≡ get_or (grid_cells s) (cell i j) None
    link_of_cell =
        let w = places_within in
        let n = cells_length s.rows in
        let m = s.sized in
        find_cell _ s.rising _ s.placed _ _ _ (omega arith) pair_cell
