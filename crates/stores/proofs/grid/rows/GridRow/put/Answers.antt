use Rattle.std.proofs.Common.{◌≡◌, ◌+◌, ◌-◌, length, get_or, set, None, sym, ap, ◌∙◌, arith}
use Rattle.std.specs.Int.{from_bool}
use Rattle.std.specs.Option.{is_some}
use Rattle.std.proofs.lemmas.List.{length-set, set-set}
use Rattle.stores.specs.Cells.{filled}
use Rattle.stores.proofs.GridRows.{filled_length, filled_written, held_few}
use Rattle.stores.proofs.grid.rows.GridRow.put.Goals as goal

pub overflow_add-self : goal.overflow_add-self
overflow_add-self c =
    let row = c.args.self.now in
    let comes : c.from.result ≡ from_bool (is_some c.args.held) = c.from.ensures ∙ ap from_bool c.is_some.ensures in
    omega (arith, comes, held_few c.args.held, row.tallied, filled_length row.cells, row.sized)

pub overflow_sub-self : goal.overflow_sub-self
overflow_sub-self c =
    let row = c.args.self.now in
    let comes : c.from.result ≡ from_bool (is_some c.args.held) = c.from.ensures ∙ ap from_bool c.is_some.ensures in
    let goes : c.from-2.result ≡ from_bool (is_some (get_or row.cells c.args.place None)) = c.from-2.ensures ∙ ap from_bool c.is_some-2.ensures in
    omega (arith, comes, goes, row.tallied, filled_written row.cells c.args.place c.args.held (omega (arith, row.sized, c.requires)))

pub invariant_of-self : goal.invariant_of-self
invariant_of-self c =
    let row = c.args.self.now in
    let comes : c.from.result ≡ from_bool (is_some c.args.held) = c.from.ensures ∙ ap from_bool c.is_some.ensures in
    let goes : c.from-2.result ≡ from_bool (is_some (get_or row.cells c.args.place None)) = c.from-2.ensures ∙ ap from_bool c.is_some-2.ensures in
    let same = set-set row.cells c.args.place (get_or row.cells c.args.place None) c.args.held in
    let count : row.tally + c.from.result - c.from-2.result ≡ length (filled (set row.cells c.args.place c.args.held)) = omega (arith, comes, goes, row.tallied, filled_written row.cells c.args.place c.args.held (omega (arith, row.sized, c.requires))) in
    record {
      sized = ap length same ∙ length-set row.cells c.args.place c.args.held ∙ row.sized;
      tallied = count ∙ ap (λ cells. length (filled cells)) (sym same);
    }
