use Rattle.std.proofs.Common.{sym, subst}
use Rattle.runs.specs.declared.types.Call.TheVariants as calls
use Rattle.runs.specs.declared.types.Reply.TheVariants.{Settled, Hopped, Sent}
use Rattle.runs.specs.Runs.{Played}
use Rattle.runs.specs.Plain.{board_of}
use Rattle.runs.proofs.Played.{settle_played, hop_played, send_played}
use Rattle.runs.proofs.play.play_read.Goals as goal

pub returns-in-Hop-clause-plays : goal.returns-in-Hop-clause-plays
returns-in-Hop-clause-plays g c = λ limit p stands.
    let m = g.M.Measure.measure in
    let s = c.args.store.now in
    let b = board_of (g.S.Store.roster s) (g.S.Store.book s) limit c.args.table.now in
    let h = c.in-Hop in
    subst (λ call. Played m p b (calls.Read call) (Hopped c.hop-answer.result)) (sym h.is)
    (hop_played m b p stands g.met.M.Measure.laws (g.met.S.Store.sound s) h.source h.class h.destination c.hop-answer.result c.hop-answer.ensures)

pub returns-in_ok-answer-in-Send-clause-plays : goal.returns-in_ok-answer-in-Send-clause-plays
returns-in_ok-answer-in-Send-clause-plays g c = λ limit p stands.
    let m = g.M.Measure.measure in
    let s = c.args.store.now in
    let b = board_of (g.S.Store.roster s) (g.S.Store.book s) limit c.args.table.now in
    let h = c.in-Send in
    let a = c.in_ok-answer-in-Send in
    subst (λ call. Played m p b (calls.Read call) (Sent a.answer a.list)) (sym h.is)
    (send_played m b p stands g.met.M.Measure.laws (g.met.S.Store.sound s) h.source h.destination h.room a.answer a.list a.ensures.0 a.ensures.1)

pub returns-in_ok-answer-in-Settle-clause-plays : goal.returns-in_ok-answer-in-Settle-clause-plays
returns-in_ok-answer-in-Settle-clause-plays g c = λ limit p stands.
    let m = g.M.Measure.measure in
    let s = c.args.store.now in
    let b = board_of (g.S.Store.roster s) (g.S.Store.book s) limit c.args.table.now in
    let then = c.settle_with.new.table in
    let h = c.in-Settle in
    let a = c.in_ok-answer-in-Settle in
    subst (λ call. Played m p (board_of (g.S.Store.roster s) (g.S.Store.book s) limit then) (calls.Read call) (Settled a.answer)) (sym h.is)
    (settle_played m b p stands (g.met.S.Store.sound s) h.destination h.waiting h.numbers then.entries.now then.marks.now a.answer a.ensures.settles)
