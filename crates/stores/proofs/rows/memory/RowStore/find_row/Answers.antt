use Rattle.std.proofs.Common.{rules}
use Rattle.std.proofs.lemmas.List.Sorted.{answers_always}
use Rattle.stores.proofs.Pairing.{pair_row}
use Rattle.stores.proofs.rows.memory.RowStore.find_row.Goals as goal

-- the closure gives the pair of a row's link
pub returns : goal.returns
returns c =
    let found = c.binary_search_by_key.ensures in
    pair_row c.args.self.now c.args.first c.args.second c.binary_search_by_key.result c.min.result c.max.result c.min.ensures c.max.ensures found.bound
    (found.position (λ l. (l.low, l.high)) (answers_always _ _ _ (λ f a r g called. search rules)))
