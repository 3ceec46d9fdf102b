use Rattle.std.specs.List.{IsFirstBest}
use Rattle.waiting.specs.Slots.{sooner}
use Rattle.waiting.proofs.list.slots.first.Given as goal

abbrev pub invariant-loop-i : goal.invariant-loop-i
invariant-loop-i g l = IsFirstBest (sooner g.M.Measure.measure.less) l.slots l.i l.best
