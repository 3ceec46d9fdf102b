use Rattle.std.proofs.Common.{◌-◌}
use Rattle.stores.proofs.RowEdits.{unlinked}
use Rattle.stores.proofs.rows.RowStoreEditableStore.unlink.Goals as goal

pub invariant_of-self-clause-sorted : goal.invariant_of-self-clause-sorted
invariant_of-self-clause-sorted c =
    let s = c.args.self.now in
    (unlinked s c.args.first c.args.second c.in_ok-places_of.field-0 c.in_ok-places_of.ensures c.in-Ok.row c.in-Ok.ensures.row c.remove_row.new.rows (s.used - 1) c.remove_row.ensures.book c.remove_row.ensures.len).sorted

pub returns-clause-edit : goal.returns-clause-edit
returns-clause-edit c =
    let s = c.args.self.now in
    (unlinked s c.args.first c.args.second c.in_ok-places_of.field-0 c.in_ok-places_of.ensures c.in-Ok.row c.in-Ok.ensures.row c.remove_row.new.rows (s.used - 1) c.remove_row.ensures.book c.remove_row.ensures.len).edit
