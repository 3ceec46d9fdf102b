-- The roster, the book and the limit of a grid store. Assumes nothing.
use Rattle.std.specs.Prelude.{ℕ, ◌+◌, ◌*◌, List, Option}
use Rattle.std.specs.List.{flat_map}
use Rattle.network.specs.declared.types.Link.{Link}
use Rattle.stores.specs.declared.grid.cells.Cell.{Cell}
use Rattle.stores.specs.declared.grid.cells.GridStore.{GridStore}
use Rattle.stores.specs.Cells.{filled}

abbrev pub grid_roster : GridStore → List ℕ
grid_roster s = s.ases.items

-- the cells, row after row
abbrev pub grid_cells : GridStore → List (Option Link)
grid_cells s = flat_map (λ r. r.cells) s.rows

-- the place of a cell among those of all rows
abbrev pub number : Cell → ℕ
number cell = 24 * cell.row + cell.place

abbrev pub grid_book : GridStore → List Link
grid_book s = filled (grid_cells s)

-- as many links as 24 ASes have pairs
abbrev pub grid_limit : GridStore → ℕ
grid_limit s = 276
