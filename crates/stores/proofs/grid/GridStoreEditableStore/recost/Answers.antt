use Rattle.std.proofs.Common.{sym, ◌∙◌}
use Rattle.stores.proofs.Edits.{spot, recost_missing, recost_fits, recost_made}
use Rattle.stores.proofs.grid.GridStoreEditableStore.recost.Goals as goal

pub returns-in_default : goal.returns-in_default
returns-in_default c =
    let here = spot c.args.self.now c.args.first c.args.second c.in_ok-cell.ensures in
    recost_missing here c.args.figures c.in_ok-check_figures.ensures (sym c.held-held.ensures ∙ c.in_default.is)

pub put-requires : goal.put-requires
put-requires c =
    let here = spot c.args.self.now c.args.first c.args.second c.in_ok-cell.ensures in
    recost_fits here c.args.figures c.in_ok-check_figures.ensures (sym c.held-held.ensures ∙ c.in-Some.is)

pub returns : goal.returns
returns c =
    let here = spot c.args.self.now c.args.first c.args.second c.in_ok-cell.ensures in
    recost_made here c.args.figures c.in_ok-check_figures.ensures (sym c.held-held.ensures ∙ c.in-Some.is) c.put.ensures.roster c.put.ensures.cells
