use Rattle.std.proofs.Common.{map, take, None, vec_items}
use Rattle.table.specs.Memory.{SameMemory}
use Rattle.runs.specs.declared.types.Call.TheVariants.{Read}
use Rattle.runs.specs.Plain.{board_of, fresh}
use Rattle.runs.specs.Runs.{Ran}
use Rattle.runs.proofs.replay.replay_read.Given as goal

-- the calls so far were made
abbrev pub invariant-loop-read : goal.invariant-loop-read
invariant-loop-read g l =
    SameMemory l.initial.table l.table ×
    Ran g.M.Measure.measure (fresh (board_of (g.S.Store.roster l.store) (g.S.Store.book l.store) None l.initial.table))
    (board_of (g.S.Store.roster l.store) (g.S.Store.book l.store) None l.table) (take l.read-index (map Read l.calls)) (vec_items l.replies)
