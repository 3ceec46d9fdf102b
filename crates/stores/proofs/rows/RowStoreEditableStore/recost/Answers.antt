use Rattle.std.proofs.Common.{refl}
use Rattle.stores.proofs.RowEdits.{recosted_at}
use Rattle.stores.proofs.rows.RowStoreEditableStore.recost.Goals as goal

pub invariant_of-self : goal.invariant_of-self
invariant_of-self c =
    let s = c.args.self.now in
    let after = recosted_at s c.args.first c.args.second c.in_ok-places_of.field-0 c.in_ok-places_of.ensures c.args.figures c.in_ok-check_figures.field-0 c.in_ok-check_figures.ensures c.in-Ok.row _ c.in-Ok.ensures.row in
    record { few = s.few; rising = s.rising; room = after.room; limited = s.limited; sorted = after.made.sorted }

pub returns : goal.returns
returns c =
    let after = recosted_at c.args.self.now c.args.first c.args.second c.in_ok-places_of.field-0 c.in_ok-places_of.ensures c.args.figures c.in_ok-check_figures.field-0 c.in_ok-check_figures.ensures c.in-Ok.row _ c.in-Ok.ensures.row in
    record { edit = after.made.edit; kept = record { memory = after.memory; same = refl } }
