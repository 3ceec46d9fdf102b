use Rattle.std.proofs.Common.{[], ◌∷◌, ◌++◌, get_or, Option, vec_items, ap, ◌∙◌, append_assoc}
use Rattle.network.proofs.Rising.{stands_among}
use Rattle.legality.specs.Networks.{net_of}
use Rattle.listing.specs.declared.types.Route.{Route}
use Rattle.listing.specs.declared.types.Row.{Row}
use Rattle.listing.proofs.Rows.{row_more, row_same}
use Rattle.listing.proofs.all_pairs.AllPairs.add_rows.Goals as goal
use Rattle.listing.proofs.all_pairs.AllPairs.add_rows.Goals.{then-destination-source+in_ok-push, else-destination-source}

pub route-requires-clause-destination : goal.route-requires-clause-destination
route-requires-clause-destination g c = stands_among c.args.self.now.ases.now c.loop-destination.destination-index c.loop-destination-test.true

pub loop-destination-preserved : goal.loop-destination-preserved
loop-destination-preserved g c =
    let ases = c.args.self.now.ases.now in
    let i = c.loop-destination.destination-index in
    let net = net_of (g.S.Store.roster c.args.self.now.store.now) (g.S.Store.book c.args.self.now.store.now) in
    let inv = c.loop-destination.invariant in
    let first = vec_items c.args.rows.now in
    let row : Option Route → Row = λ r. record { source = c.args.source; destination = get_or ases i 0; route = r } in
    elim c.if-destination-source.branch [
      | then-destination-source+in_ok-push w ↦ (
        inv.0 ++ row w.route.result ∷ [],
        ap vec_items w.rows-is ∙ (w.in_ok-push.ensures.items ∙ (ap (λ xs. xs ++ row w.route.result ∷ []) inv.1 ∙ append_assoc first inv.0 (row w.route.result ∷ []))),
        row_more net c.args.source ases i c.loop-destination-test.true inv.0 inv.2 (row w.route.result) w.if-destination-source.true w.route.ensures,
      )
      | else-destination-source w ↦
          (inv.0, ap vec_items w.rows-is ∙ inv.1, row_same net c.args.source ases i c.loop-destination-test.true inv.0 inv.2 w.if-destination-source.false)
    ]
