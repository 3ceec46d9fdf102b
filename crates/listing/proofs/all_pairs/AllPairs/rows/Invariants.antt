use Rattle.std.proofs.Common.{take, vec_items}
use Rattle.legality.specs.Networks.{net_of}
use Rattle.listing.specs.Rows.{RowsRight, pairs_from}
use Rattle.listing.proofs.all_pairs.AllPairs.rows.Given as goal

abbrev pub invariant-loop-source : goal.invariant-loop-source
invariant-loop-source g l =
    RowsRight (net_of (g.S.Store.roster l.self.store.now) (g.S.Store.book l.self.store.now)) (pairs_from (take l.source-index l.self.ases.now) l.self.ases.now) (vec_items l.rows)
