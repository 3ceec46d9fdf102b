use Rattle.std.proofs.Common.{◌+◌, ◌<◌, length, arith}
use Rattle.waiting.specs.Lists.{held, room}
use Rattle.waiting.proofs.Waits.{slot}
use Rattle.waiting.proofs.Changes.{waiting, idle, put_apart, put_sets}
use Rattle.waiting.proofs.Answers.{changed, unchanged, put_waiting, put_full, put_ok}
use Rattle.waiting.proofs.list.Waiting.put.Goals as goal

pub returns-then-is_some-clause-after : goal.returns-then-is_some-clause-after
unfolding held room
returns-then-is_some-clause-after g c =
    unchanged (put_waiting _ _ (waiting c.args.self.now c.args.place c.find.result c.find.ensures c.if-is_some.ensures))

pub returns-then-self-slots-clause-after : goal.returns-then-self-slots-clause-after
unfolding held room
returns-then-self-slots-clause-after g c =
    unchanged (put_full _ _ (idle c.args.self.now c.args.place c.find.result c.find.ensures c.if-is_some.ensures) (omega arith))

pub invariant_of-self-2-clause-apart : goal.invariant_of-self-2-clause-apart
invariant_of-self-2-clause-apart g c =
    let w = c.args.self.now in
    put_apart w (slot c.args.place c.args.cost) (omega (arith, w.fits)) (idle w c.args.place c.find.result c.find.ensures c.if-is_some.ensures)

pub returns-clause-after : goal.returns-clause-after
unfolding held room
returns-clause-after g c =
    let w = c.args.self.now in
    let s = slot c.args.place c.args.cost in
    let lt : w.used < length w.slots.now = omega (arith, w.fits) in
    let free = idle w c.args.place c.find.result c.find.ensures c.if-is_some.ensures in
    changed _ (w.used + 1) w.used w.slots.now s (omega arith) (omega arith) (put_ok _ _ free (omega arith)) (put_sets w s lt free) (omega arith)
