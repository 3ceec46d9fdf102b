use Rattle.std.proofs.Common.{◌≡◌, List, ◌++◌, take, vec_items}
use Rattle.legality.specs.Networks.{net_of}
use Rattle.listing.specs.declared.types.Row.{Row}
use Rattle.listing.specs.Rows.{RowsRight, pairs_of}
use Rattle.listing.proofs.all_pairs.AllPairs.add_rows.Given as goal

abbrev pub invariant-loop-destination : goal.invariant-loop-destination
invariant-loop-destination g l =
    (more : List Row) × (vec_items l.rows ≡ vec_items l.initial.rows ++ more) × RowsRight (net_of (g.S.Store.roster l.self.store.now) (g.S.Store.book l.self.store.now)) (pairs_of l.source (take l.destination-index l.self.ases.now)) more
