use Rattle.std.proofs.Common.{map, take, Some, vec_items}
use Rattle.table.specs.Memory.{SameMemory}
use Rattle.runs.specs.Plain.{board_of, fresh}
use Rattle.runs.specs.Runs.{Ran}
use Rattle.runs.proofs.replay.replay_of.Given as goal

-- the calls so far were made
abbrev pub invariant-loop-call : goal.invariant-loop-call
invariant-loop-call g l =
    SameMemory l.initial.table l.table ×
    Ran g.M.Measure.measure (fresh (board_of (g.S.Store.roster l.initial.store) (g.S.Store.book l.initial.store) (Some (g.S.EditableStore.limit l.initial.store)) l.initial.table))
    (board_of (g.S.Store.roster l.store) (g.S.Store.book l.store) (Some (g.S.EditableStore.limit l.store)) l.table) (take l.call-index (map g.T.AsCall.call l.calls)) (vec_items l.replies)
