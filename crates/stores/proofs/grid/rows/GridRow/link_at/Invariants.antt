use Rattle.std.specs.Prelude.{slice_get}
use Rattle.std.proofs.Common.{◌≡◌, drop}
use Rattle.stores.specs.Cells.{filled}
use Rattle.stores.proofs.grid.rows.GridRow.link_at.Given as goal

-- the link that is looked for, among those that are left
abbrev pub invariant-loop-cell : goal.invariant-loop-cell
invariant-loop-cell l = slice_get (filled (drop l.cell-index l.self.cells)) l.left ≡ slice_get (filled l.self.cells) l.spot
