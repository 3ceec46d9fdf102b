use Rattle.std.proofs.Common.{◌≡◌, ◌<◌, ◌^◌, rules, arith}
use Rattle.std.specs.List.{sum_by}
use Rattle.stores.specs.Grid.{grid_cells}
use Rattle.stores.proofs.GridRows.{tallies, cells_length, filled_length}
use Rattle.stores.proofs.grid.GridStoreStore.link_count.Goals as goal

pub sum-requires-clause-fits : goal.sum-requires-clause-fits
sum-requires-clause-fits c =
    let s = c.args.self.now in
    let most : sum_by (λ r. r.tally) s.rows < 2 ^ 64 = omega (arith, tallies s.rows, filled_length (grid_cells s), cells_length s.rows, s.sized) in
    search (rules, most)

pub returns : goal.returns
returns c =
    let s = c.args.self.now in
    let is : c.sum.result ≡ sum_by (λ r. r.tally) s.rows = search rules in
    omega (arith, tallies s.rows)
