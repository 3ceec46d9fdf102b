use Rattle.std.proofs.Common.{take}
use Rattle.routes.specs.Columns.{Passed}
use Rattle.routes.proofs.column.Column.write_walk.Given as goal

-- the ASes that have been passed are written
abbrev pub invariant-loop-number : goal.invariant-loop-number
invariant-loop-number g l = Passed l.self l.fn.from l.at (take l.number-index l.passed)
