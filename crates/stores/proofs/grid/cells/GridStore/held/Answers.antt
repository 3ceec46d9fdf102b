use Rattle.std.proofs.Common.{sym, arith}
use Rattle.stores.proofs.GridRows.{cell_read}
use Rattle.stores.proofs.grid.cells.GridStore.held.Goals as goal

pub returns : goal.returns
returns c =
    let s = c.args.self.now in
    sym (cell_read s.rows c.args.cell.row c.args.cell.place c.index-self-cell.result (omega (arith, s.sized, c.args.cell.low)) c.args.cell.high)
