use Rattle.std.proofs.Common.{rules, ap}
use Rattle.network.specs.Causes.{link_causes}
use Rattle.board.proofs.Told.{board_edits}
use Rattle.board.proofs.edits.link.Goals as goal

pub returns-clause-links : goal.returns-clause-links
returns-clause-links g c =
    board_edits {causes = link_causes (g.S.Store.roster c.args.store.now) (g.S.Store.book c.args.store.now) (g.S.EditableStore.limit c.args.store.now) c.args.first c.args.second c.args.relation c.args.figures}
    (λ e. (ap g.S.Store.roster e, ap g.S.Store.book e, ap g.S.EditableStore.limit e))
    (λ x h. search rules)
    c.pass_on.ensures.passes
