use Rattle.std.proofs.Common.{◌≡◌, true, [], ◌∷◌, is_some, set, Some, sym, ap, ◌∙◌, subst}
use Rattle.stores.specs.Cells.{fit}
use Rattle.stores.specs.Grid.{grid_roster, grid_cells, number}
use Rattle.stores.proofs.Edits.{spot, link_standing, link_full, link_fits, link_made}
use Rattle.stores.proofs.grid.GridStoreEditableStore.link.Goals as goal

pub returns-then-is_some : goal.returns-then-is_some
returns-then-is_some c =
    let here = spot c.args.self.now c.args.first c.args.second c.in_ok-cell.ensures in
    link_standing here c.args.figures c.in_ok-check_figures.ensures c.args.relation c.in_ok-relation.ensures (ap is_some (sym c.held-held.ensures) ∙ sym c.if-is_some.ensures)

pub returns-then-link_count-eq-MOST_LINKS : goal.returns-then-link_count-eq-MOST_LINKS
returns-then-link_count-eq-MOST_LINKS c =
    let here = spot c.args.self.now c.args.first c.args.second c.in_ok-cell.ensures in
    link_full here c.args.figures c.in_ok-check_figures.ensures c.args.relation c.in_ok-relation.ensures (ap is_some (sym c.held-held.ensures) ∙ sym c.if-is_some.ensures) (sym c.link_count.ensures ∙ c.if-link_count-eq-MOST_LINKS.true)

pub put-requires : goal.put-requires
put-requires c =
    let here = spot c.args.self.now c.args.first c.args.second c.in_ok-cell.ensures in
    let fits = link_fits here c.args.figures c.in_ok-check_figures.ensures c.args.relation c.in_ok-relation.ensures in
    subst (λ l. fit (grid_roster c.args.self.now) (number c.in_ok-cell.cell) (Some l ∷ []) ≡ true) (sym c.entered.ensures) fits

pub returns : goal.returns
returns c =
    let here = spot c.args.self.now c.args.first c.args.second c.in_ok-cell.ensures in
    link_made here c.args.figures c.in_ok-check_figures.ensures c.args.relation c.in_ok-relation.ensures (ap is_some (sym c.held-held.ensures) ∙ sym c.if-is_some.ensures)
    (λ e. c.if-link_count-eq-MOST_LINKS.false (c.link_count.ensures ∙ e)) c.put.ensures.roster
    (c.put.ensures.cells ∙ ap (λ l. set (grid_cells c.args.self.now) (number c.in_ok-cell.cell) (Some l)) c.entered.ensures)
