use Rattle.std.proofs.Common.{◌≡◌, true, sym, ◌∙◌, subst, arith}
use Rattle.std.proofs.lemmas.List.{length-set}
use Rattle.stores.specs.Cells.{fit}
use Rattle.stores.specs.Grid.{grid_cells, number}
use Rattle.stores.specs.CellsLemmas.{fit_set}
use Rattle.stores.proofs.GridRows.{cell_written}
use Rattle.stores.proofs.grid.cells.GridStore.put.Goals as goal

pub invariant_of-self : goal.invariant_of-self
invariant_of-self c =
    let s = c.args.self.now in
    let k = number c.args.cell in
    let written = cell_written s.rows c.args.cell.row c.args.cell.place c.index-rows-cell.result _ c.args.held (omega (arith, s.sized, c.args.cell.low)) c.args.cell.high c.put.ensures in
    record {
      few = s.few;
      sized = length-set s.rows c.args.cell.row _ ∙ s.sized;
      rising = s.rising;
      placed = subst (λ cells. fit s.ases.items 0 cells ≡ true) (sym written) (fit_set s.ases.items s.rising 0 k k (grid_cells s) c.args.held (omega arith) s.placed c.requires);
    }

pub returns-clause-cells : goal.returns-clause-cells
returns-clause-cells c =
    let s = c.args.self.now in
    cell_written s.rows c.args.cell.row c.args.cell.place c.index-rows-cell.result _ c.args.held (omega (arith, s.sized, c.args.cell.low)) c.args.cell.high c.put.ensures
