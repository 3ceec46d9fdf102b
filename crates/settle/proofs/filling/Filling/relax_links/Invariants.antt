use Rattle.std.proofs.Common.{ℕ}
use Rattle.legality.specs.Tables.{Table}
use Rattle.settle.specs.Memory.{SameColumn}
use Rattle.settle.specs.States.{Midway}
use Rattle.settle.proofs.filling.Filling.relax_links.Given as goal

-- the first `spot` links have been gone through
abbrev pub invariant-loop-spot : goal.invariant-loop-spot
invariant-loop-spot g l =
    let roster = g.S.Store.roster l.store in
    let book = g.S.Store.book l.store in
    SameColumn l.initial.self l.self
    × ((d : ℕ) (q : Table g.row.M-Cost.Denot) → Midway roster book l.from 0 d q l.initial.self → Midway roster book l.from l.spot d q l.self)
