use Rattle.std.specs.Prelude.{slice_get}
use Rattle.std.proofs.Common.{◌+◌, ◌-◌, ◌<◌, ◌≤◌, length, get_or, drop, sym, ap, ◌∙◌, arith}
use Rattle.network.proofs.Rosters.{at_front, at_back}
use Rattle.stores.specs.Cells.{filled}
use Rattle.stores.proofs.GridRows.{cells_in, links_from}
use Rattle.stores.proofs.grid.GridStoreStore.link_at.Goals as goal

pub returns-then-left-row : goal.returns-then-left-row
returns-then-left-row c =
    let rows = c.args.self.now.rows in
    let i = c.loop-row.row-index in
    let within : i < length rows = omega (arith, c.loop-row-test.true, c.args.self.now.sized) in
    let left = c.loop-row.left in
    let row = get_or rows i c.row-item.result in
    let short : left < length (filled row.cells) = omega (arith, c.if-left-row.true, row.tallied) in
    c.link_at.ensures ∙
    sym (at_front (filled row.cells) (filled (cells_in (drop (i + 1) rows))) left short) ∙
    sym (ap (λ links. slice_get links left) (links_from rows i c.row-item.result within)) ∙
    c.loop-row.invariant

pub loop-row-preserved : goal.loop-row-preserved
loop-row-preserved c =
    let rows = c.args.self.now.rows in
    let i = c.loop-row.row-index in
    let within : i < length rows = omega (arith, c.loop-row-test.true, c.args.self.now.sized) in
    let left = c.loop-row.left in
    let row = get_or rows i c.row-item.result in
    let rest = filled (cells_in (drop (i + 1) rows)) in
    let long : length (filled row.cells) ≤ left = omega (arith, c.if-left-row.false, row.tallied) in
    ap (λ n. slice_get rest (left - n)) row.tallied ∙
    sym (at_back (filled row.cells) rest left long) ∙
    sym (ap (λ links. slice_get links left) (links_from rows i c.row-item.result within)) ∙
    c.loop-row.invariant
