use Rattle.std.proofs.Common.{◌≡◌, ℕ, ◌*◌, ◌≤◌, true, List, length, take}
use Rattle.network.specs.Rosters.{Among}
use Rattle.measure.specs.Delay.{delay}
use Rattle.routes.specs.Routes.{has, Holds}
use Rattle.listing.proofs.all_pairs.settle_all.Given as goal

-- the ASes up to here are settled
abbrev pub invariant-loop-destination : goal.invariant-loop-destination
invariant-loop-destination g l =
    (2 * length l.ases ≤ length l.work.waiting.now) ×
    (2 * length l.ases ≤ length l.work.numbers.now) ×
    ((settled : List ℕ) × Holds delay (g.S.Store.roster l.store) (g.S.Store.book l.store) settled l.table.entries.now l.table.marks.now × ((a : ℕ) → Among a (take l.destination-index l.ases) → has settled a ≡ true))
