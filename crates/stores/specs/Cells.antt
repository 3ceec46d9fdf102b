-- The cells of a grid store: what each may hold, and the links in them. Assumes nothing.
use Rattle.std.specs.Prelude.{ℕ, suc, ◌+◌, ◌*◌, ◌/◌, ◌%◌, min, max, Bool, true, ◌&&◌, List, [], ◌∷◌, length, Some, None, Option, ◌==◌, nat_lt, slice_index}
use Rattle.std.specs.List.{flat_map}
use Rattle.std.specs.Option.{option_to_list}
use Rattle.network.specs.declared.types.Link.{Link}
use Rattle.network.specs.Rosters.{place}
use Rattle.network.specs.Limits.{in_limits}

-- the links in the cells, in their order
abbrev pub filled : List (Option Link) → List Link
filled cells = flat_map option_to_list cells

-- a link that the cell k may hold: that of the ASes at the places k / 24 and k % 24, the lower place first
abbrev pub fits_cell : List ℕ → ℕ → Link → Bool
fits_cell roster k l =
    nat_lt (k / 24) (k % 24) && (nat_lt (k % 24) (length roster) && (l.low == slice_index roster (k / 24) && (l.high == slice_index roster (k % 24) && (in_limits l.figures.delay && in_limits l.figures.width))))

-- each of the cells, counted from k, holds nothing or a link that it may hold
abbrev pub fit : List ℕ → ℕ → List (Option Link) → Bool
fit roster k [] = true
fit roster k (None ∷ cells) = fit roster (suc k) cells
fit roster k (Some l ∷ cells) = fits_cell roster k l && fit roster (suc k) cells

-- the cell of two places, named in either order, among those of all rows
abbrev pub cell_at : Option ℕ → Option ℕ → ℕ
cell_at None j = 0
cell_at (Some i) None = 0
cell_at (Some i) (Some j) = 24 * min i j + max i j

-- the cell of two ASes of the roster
abbrev pub cell_of : List ℕ → ℕ → ℕ → ℕ
cell_of roster a b = cell_at (place roster a) (place roster b)
