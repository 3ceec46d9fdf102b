use Rattle.std.proofs.Common.{◌-◌, take, ◌∙◌, arith}
use Rattle.std.specs.List.{remove}
use Rattle.std.proofs.lemmas.List.{length-take-le}
use Rattle.std.proofs.lemmas.List.Edits.{length-remove}
use Rattle.stores.proofs.Moves.{removed, front_of}
use Rattle.stores.proofs.rows.moves.remove_row.Goals as goal

pub returns : goal.returns
returns c =
    let book = take c.args.used c.args.rows.now in
    let n = length-take-le c.args.used c.args.rows.now (omega arith) in
    let long = length-remove book c.args.row (omega arith) in
    front_of c.args.rows.now _ (remove book c.args.row) (c.args.used - 1) (omega arith) (omega arith)
    (c.copy_within.ensures.after ∙ removed c.args.rows.now c.args.used c.args.row c.requires.0 c.requires.1)
