use Rattle.stores.proofs.Pairs.{places_within}
use Rattle.stores.proofs.Refusals.{placed}
use Rattle.stores.proofs.grid.cells.GridStore.cell_of.Goals as goal

pub cell_index-requires : goal.cell_index-requires
cell_index-requires c =
    let s = c.args.self.now in
    let p = placed _ c.args.first c.args.second (c.in_ok-place.place, c.in_ok-place.other) c.in_ok-place.ensures in
    places_within s c.args.first c.args.second c.in_ok-place.place c.in_ok-place.other p.1 p.2
