use Rattle.std.proofs.Common.{get_or, None, sym, ap, ◌∙◌, inl, inr}
use Rattle.stores.specs.Grid.{grid_cells}
use Rattle.stores.proofs.Pairs.{places_within, link_of_cell, link_of_unknown}
use Rattle.stores.proofs.grid.GridStoreStore.link_of.Goals as goal

pub returns-in_err-first : goal.returns-in_err-first
returns-in_err-first c =
    c.from_residual.ensures ∙ sym (link_of_unknown c.args.self.now c.args.first c.args.second (inl (sym c.in_err-first.ensures)))

pub returns-in_err-second : goal.returns-in_err-second
returns-in_err-second c =
    c.from_residual-in_err-second.ensures ∙
    sym (link_of_unknown c.args.self.now c.args.first c.args.second (inr (sym c.in_err-second.ensures)))

pub cell_index-requires : goal.cell_index-requires
cell_index-requires c =
    places_within c.args.self.now c.args.first c.args.second c.in_ok-first.first c.in_ok-second.second (sym c.in_ok-first.ensures) (sym c.in_ok-second.ensures)

pub returns : goal.returns
returns c =
    c.held.ensures ∙
    ap (λ n. get_or (grid_cells c.args.self.now) n None) c.cell_index.ensures ∙
    sym (link_of_cell c.args.self.now c.args.first c.args.second c.in_ok-first.first c.in_ok-second.second
    (sym c.in_ok-first.ensures) (sym c.in_ok-second.ensures))
