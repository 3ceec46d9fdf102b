use Rattle.std.specs.Prelude.{slice_get}
use Rattle.std.proofs.Common.{◌≡◌, drop}
use Rattle.stores.specs.Cells.{filled}
use Rattle.stores.proofs.GridRows.{cells_in}
use Rattle.stores.proofs.grid.GridStoreStore.link_at.Given as goal

-- the link that is looked for, among those that are left
abbrev pub invariant-loop-row : goal.invariant-loop-row
invariant-loop-row l = slice_get (filled (cells_in (drop l.row-index l.self.rows))) l.left ≡ slice_get (filled (cells_in l.self.rows)) l.spot
