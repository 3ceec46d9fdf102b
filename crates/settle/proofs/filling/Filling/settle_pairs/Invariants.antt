use Rattle.std.proofs.Common.{ℕ, ◌-◌, ◌*◌, length}
use Rattle.labels.specs.Labels.{size}
use Rattle.settle.specs.Memory.{SameColumn}
use Rattle.settle.specs.States.{Between, taken_of}
use Rattle.settle.proofs.filling.Filling.settle_pairs.Given as goal

abbrev pub invariant-loop-slot : goal.invariant-loop-slot
invariant-loop-slot g l =
    let roster = g.S.Store.roster l.store in
    let book = g.S.Store.book l.store in
    SameColumn l.initial.self l.self × ((d : ℕ) → Between roster book d l.initial.self → Between roster book d l.self)

-- each turn takes a pair more
abbrev pub decreases-loop-slot : goal.decreases-loop-slot
decreases-loop-slot g l =
    let roster = g.S.Store.roster l.store in
    2 * length roster - size (taken_of roster l.self) roster
