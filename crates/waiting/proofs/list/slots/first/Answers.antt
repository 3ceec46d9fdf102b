use Rattle.std.proofs.Common.{sym}
use Rattle.std.proofs.lemmas.List.MinMax.{IsFirstBest-takes, IsFirstBest-keeps}
use Rattle.waiting.specs.Slots.{sooner}
use Rattle.waiting.proofs.Sooner.{ranks}
use Rattle.waiting.proofs.list.slots.first.Goals as goal
use Rattle.waiting.proofs.list.slots.first.Goals.{then-is_sooner, else-is_sooner}

pub loop-i-preserved : goal.loop-i-preserved
loop-i-preserved g c =
    let o = ranks g.M.Measure.measure g.met.M.Measure.laws in
    let xs = c.args.slots.now in
    let i = c.loop-i.i in
    let x = c.index-slots-i.result in
    let y = c.index-slots-best.result in
    let beats = sooner g.M.Measure.measure.less x y in
    elim c.if-is_sooner.branch [
      | then-is_sooner w ↦ rw w.best-is (IsFirstBest-takes o xs i c.loop-i.best x y c.loop-i.invariant c.loop-i-test.true c.index-slots-i.is c.index-slots-best.is (sym {b = beats} w.if-is_sooner.ensures))
      | else-is_sooner w ↦ rw w.best-is (IsFirstBest-keeps o xs i c.loop-i.best x y c.loop-i.invariant c.loop-i-test.true c.index-slots-i.is c.index-slots-best.is (sym {b = beats} w.if-is_sooner.ensures))
    ]
