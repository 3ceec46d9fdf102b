use Rattle.std.proofs.Common.{◌+◌, take, ap, ◌∙◌, arith}
use Rattle.std.specs.List.{insert}
use Rattle.std.proofs.Math.ListN.{set}
use Rattle.std.proofs.lemmas.List.{length-take-le}
use Rattle.std.proofs.lemmas.List.Edits.{length-insert}
use Rattle.stores.proofs.Moves.{inserted, front_of}
use Rattle.stores.proofs.rows.moves.insert_row.Goals as goal

pub returns : goal.returns
returns c =
    let book = take c.args.used c.args.rows.now in
    let n = length-take-le c.args.used c.args.rows.now (omega arith) in
    let long = length-insert book c.args.row c.args.link (omega arith) in
    front_of c.args.rows.now _ (insert book c.args.row c.args.link) (c.args.used + 1) (omega arith) (omega arith)
    (ap (λ ys. set ys c.args.row c.args.link) c.copy_within.ensures.after ∙ inserted c.args.rows.now c.args.used c.args.row c.args.link c.requires.0 c.requires.1)
