use Rattle.std.proofs.Common.{Some, sym, subst}
use Rattle.runs.specs.declared.types.Reply.TheVariants.{Edited}
use Rattle.runs.specs.Plain.{board_of}
use Rattle.runs.specs.Runs.{Played, Plays}
use Rattle.runs.proofs.Played.{edit_played}
use Rattle.runs.proofs.play.play.Goals as goal

pub returns-in-Edit-clause-plays : goal.returns-in-Edit-clause-plays
returns-in-Edit-clause-plays g c = λ p stands.
    let m = g.M.Measure.measure in
    let s = c.args.store.now in
    let t = c.args.table.now in
    let s' = c.edit_board.new.store in
    let t' = c.edit_board.new.table in
    let h = c.in-Edit in
    subst (λ call. Played m p (board_of (g.S.Store.roster s') (g.S.Store.book s') (Some (g.S.EditableStore.limit s')) t') call (Edited c.edit_board.result)) (sym h.is)
    (edit_played m (g.S.Store.roster s) (g.S.Store.roster s') (g.S.Store.book s) (g.S.Store.book s') (g.S.EditableStore.limit s) (g.S.EditableStore.limit s') t.entries.now t'.entries.now t.marks.now t'.marks.now h.edit c.edit_board.result c.edit_board.ensures.edits p stands)

pub returns-in-Read-clause-plays : goal.returns-in-Read-clause-plays
returns-in-Read-clause-plays g c =
    let m = g.M.Measure.measure in
    let s = c.args.store.now in
    let limit = Some (g.S.EditableStore.limit s) in
    subst (λ call. Plays m (board_of (g.S.Store.roster s) (g.S.Store.book s) limit c.args.table.now) (board_of (g.S.Store.roster s) (g.S.Store.book s) limit c.play_read.new.table) call c.play_read.result) (sym c.in-Read.is) (c.play_read.ensures.plays limit)
