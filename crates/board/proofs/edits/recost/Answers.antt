use Rattle.std.proofs.Common.{rules, ap}
use Rattle.network.specs.Causes.{recost_causes}
use Rattle.board.proofs.Told.{board_edits}
use Rattle.board.proofs.edits.recost.Goals as goal

pub returns-clause-recosts : goal.returns-clause-recosts
returns-clause-recosts g c =
    board_edits {causes = recost_causes (g.S.Store.roster c.args.store.now) (g.S.Store.book c.args.store.now) c.args.first c.args.second c.args.figures}
    (λ e. (ap g.S.Store.roster e, ap g.S.Store.book e, ap g.S.EditableStore.limit e))
    (λ x h. search rules)
    c.pass_on.ensures.passes
