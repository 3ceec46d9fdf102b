use Rattle.std.proofs.Common.{sym, ◌∙◌}
use Rattle.network.proofs.Options.{some_from, none_from}
use Rattle.stores.proofs.Edits.{spot, unlink_missing, unlink_made}
use Rattle.stores.proofs.grid.GridStoreEditableStore.unlink.Goals as goal

pub returns-then-is_none : goal.returns-then-is_none
returns-then-is_none c =
    let here = spot c.args.self.now c.args.first c.args.second c.in_ok-cell.ensures in
    unlink_missing here (sym c.held-held.ensures ∙ none_from c.held-held.result c.if-is_none.ensures)

pub returns : goal.returns
returns c =
    let here = spot c.args.self.now c.args.first c.args.second c.in_ok-cell.ensures in
    unlink_made here (sym c.held-held.ensures ∙ (some_from c.held-held.result c.if-is_none.ensures).1) c.put.ensures.roster c.put.ensures.cells
