use Rattle.std.proofs.Common.{◌+◌, take, vec_items, sym, subst}
use Rattle.network.proofs.Rising.{stands_among}
use Rattle.legality.specs.Networks.{net_of}
use Rattle.listing.specs.Rows.{RowsRight, pairs_from}
use Rattle.listing.proofs.Rows.{rows_more}
use Rattle.listing.proofs.all_pairs.AllPairs.rows.Goals as goal

pub add_rows-requires-clause-source : goal.add_rows-requires-clause-source
add_rows-requires-clause-source g c = stands_among c.args.self.now.ases.now c.loop-source.source-index c.loop-source-test.true

pub loop-source-preserved : goal.loop-source-preserved
loop-source-preserved g c =
    let net = net_of (g.S.Store.roster c.args.self.now.store.now) (g.S.Store.book c.args.self.now.store.now) in
    let ases = c.args.self.now.ases.now in
    let e = c.in_ok-add_rows.ensures in
    subst (RowsRight net (pairs_from (take (c.loop-source.source-index + 1) ases) ases)) (sym e.1) (rows_more net ases c.loop-source.source-index c.loop-source-test.true (vec_items c.loop-source.rows) e.0 c.loop-source.invariant e.2)
