use Rattle.std.proofs.Common.{◌≡◌, ℕ, ◌<◌, ◌∷◌, length, get_or, Some, None, ap, ◌∙◌, arith}
use Rattle.network.specs.Rosters.{place}
use Rattle.network.proofs.Rising.{rising, place_at}
use Rattle.measure.specs.Delay.{delay}
use Rattle.settle.specs.Memory.{memory_of}
use Rattle.settle.specs.Settled.{cause}
use Rattle.runs.proofs.Filled.{holds_more}
use Rattle.listing.proofs.AllSettled.{no_cause, has_more}
use Rattle.listing.proofs.all_pairs.settle_all.Given as given
use Rattle.listing.proofs.all_pairs.settle_all.Goals as goal

-- the AS whose turn it is stands in the roster
turn : (g : given.Over) (c : goal.After-from_residual g) → place (g.S.Store.roster c.args.store.now) (get_or c.args.ases.now c.loop-destination.destination-index 0) ≡ Some c.loop-destination.destination-index
turn g c =
    let roster = g.S.Store.roster c.args.store.now in
    let i = c.loop-destination.destination-index in
    let within : i < length roster = omega (arith, ap length c.requires.all, c.loop-destination-test.true) in
    ap (λ xs. place roster (get_or xs i 0)) c.requires.all ∙ place_at roster (rising 0 roster (g.met.S.Store.sound c.args.store.now).rising) i within

accepted : (g : given.Over) (c : goal.After-from_residual g) → cause (g.S.Store.roster c.args.store.now) (get_or c.args.ases.now c.loop-destination.destination-index 0) (memory_of c.loop-destination.table c.loop-destination.work) ≡ None
accepted g c =
    let roster = g.S.Store.roster c.args.store.now in
    let i = c.loop-destination.invariant in
    no_cause roster (get_or c.args.ases.now c.loop-destination.destination-index 0) c.loop-destination.destination-index (memory_of c.loop-destination.table c.loop-destination.work) i.2.1.enough (omega (arith, ap length c.requires.all, i.0)) (omega (arith, ap length c.requires.all, i.1)) (turn g c)

pub returns-in_err-settle : goal.returns-in_err-settle
returns-in_err-settle g c =
    let refused = c.in_err-settle.ensures.settles.0 in
    let free = accepted g c in
    let z : ◌≡◌ {A = ℕ} 0 1 = cc in
    absurd (omega arith)

pub loop-destination-preserved : goal.loop-destination-preserved
loop-destination-preserved g c =
    let i = c.loop-destination.invariant in
    let e = c.in_ok-settle.ensures in
    let done = e.settles.1 in
    let a = get_or c.args.ases.now c.loop-destination.destination-index 0 in
    let before = memory_of c.loop-destination.table c.loop-destination.work in
    let after = memory_of c.settle.new.table c.settle.new.work in
    let more = holds_more delay (g.S.Store.roster c.args.store.now) (g.S.Store.book c.args.store.now) i.2.0 before after i.2.1 a done.0 done.1 c.in_ok-settle.field-0 done.2 in (
      omega (arith, done.2.slots, i.0),
      omega (arith, ap length done.2.numbers, i.1),
      (a ∷ i.2.0, more, has_more c.args.ases.now i.2.0 c.loop-destination.destination-index c.loop-destination-test.true i.2.2),
    )
