use Rattle.std.proofs.Common.{◌≡◌, ◌+◌, false, [], map, length, None, refl, arith}
use Rattle.std.proofs.lemmas.List.{length-map}
use Rattle.std.proofs.lemmas.Result.{err_from_is_err_and}
use Rattle.table.specs.Memory.{small}
use Rattle.table.proofs.Same.{still_same}
use Rattle.runs.specs.declared.types.Call.TheVariants.{Read}
use Rattle.runs.specs.Plain.{Board, board_of, fresh}
use Rattle.runs.specs.Runs.{Ran}
use Rattle.runs.proofs.Ran.{ran_none, mapped_more, broke_off, made_all}
use Rattle.runs.proofs.replay.replay_read.Given as given
use Rattle.runs.proofs.replay.replay_read.Goals as goal
use Rattle.runs.proofs.replay.replay_read.Goals.{In_ok-open}

-- the board before it is opened
abbrev before : (g : given.Over) (c : In_ok-open g) → Board g.row.M-Cost.Denot
before g c = let s = c.args.store.now in board_of (g.S.Store.roster s) (g.S.Store.book s) None c.args.table.now

-- its memory is large enough, and no call was made yet
opened : (g : given.Over) (c : In_ok-open g) →
    let b = before g c in
    (small (length b.roster) b.entries b.marks ≡ false) × Ran g.M.Measure.measure (fresh b) (board_of b.roster b.book b.limit c.open.new.table) [] []
opened g c = let t = c.open.new.table in ran_none g.M.Measure.measure (before g c) t.entries.now t.marks.now c.in_ok-open.ensures.opens

pub loop-read-init : goal.loop-read-init
loop-read-init g c = (record { entries = refl; marks = refl }, simp c.new-replies.ensures.items (opened g (goal.at.loop-read-init g c).In_ok-open).1)

pub returns-in_err-reply-clause-replays : goal.returns-in_err-reply-clause-replays
returns-in_err-reply-clause-replays g c =
    let i = c.loop-read.invariant in
    let q = c.in_err-reply.ensures in
    let start = (goal.at.returns-in_err-reply-clause-replays g c).In_ok-open in
    broke_off g.M.Measure.measure (map Read c.args.calls.now) (before g start) c.loop-read.read-index (opened g start).0 i.1 (q.plays None).1 (err_from_is_err_and c.from_residual-in_err-reply.result c.from_residual-in_err-reply.ensures.1)

pub returns-in_err-push-clause-replays : goal.returns-in_err-push-clause-replays
returns-in_err-push-clause-replays g c =
    let m = g.M.Measure.measure in
    let i = c.loop-read.invariant in
    let q = c.in_ok-reply.ensures in
    let start = (goal.at.returns-in_err-push-clause-replays g c).In_ok-open in
    broke_off m (map Read c.args.calls.now) (before g start) (c.loop-read.read-index + 1) (opened g start).0 (mapped_more m Read c.args.calls.now _ c.loop-read-test.true refl i.1 (q.plays None)) refl (err_from_is_err_and c.from_residual-in_err-push.result c.from_residual-in_err-push.ensures.1)

pub loop-read-preserved : goal.loop-read-preserved
loop-read-preserved g c =
    let i = c.loop-read.invariant in
    let q = c.in_ok-reply.ensures in
    (still_same i.0 q.same, simp c.in_ok-push.ensures.items (mapped_more g.M.Measure.measure Read c.args.calls.now _ c.loop-read-test.true refl i.1 (q.plays None)))

pub returns-clause-replays : goal.returns-clause-replays
returns-clause-replays g c =
    let i = c.loop-read.invariant in
    let start = (goal.at.returns-clause-replays g c).In_ok-open in
    made_all g.M.Measure.measure (map Read c.args.calls.now) (before g start) c.loop-read.replies (opened g start).0 (let same = length-map c.args.calls.now Read in omega (arith, c.loop-read-test.false)) i.1
