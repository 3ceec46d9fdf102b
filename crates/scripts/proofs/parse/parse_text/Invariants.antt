use Rattle.std.proofs.Common.{IfSome}
use Rattle.scripts.specs.Scripts.{Whole}
use Rattle.scripts.proofs.parse.parse_text.Given as goal

abbrev pub invariant-loop-above : goal.invariant-loop-above
invariant-loop-above l =
    (goal.iterator-loop-above).can_next l.above-iterator × (goal.iterator-loop-above).is_finite l.above-iterator × IfSome l.script Whole
