use Rattle.std.proofs.Common.{◌≡◌, ◌<◌, length, take, sym, subst, arith}
use Rattle.std.proofs.lemmas.List.{take_all, take_more_set, length-take-le}
use Rattle.routes.specs.Columns.{Passed}
use Rattle.routes.proofs.Known.{err_ok}
use Rattle.routes.proofs.Walked.{passed_none, passed_more, passed_false, not_yet, at_last}
use Rattle.routes.proofs.column.Column.write_walk.Goals as goal

pub loop-number-init : goal.loop-number-init
loop-number-init g c = passed_none c.args.self.now c.args.from c.requires.from

pub loop-number-preserved : goal.loop-number-preserved
loop-number-preserved g c =
    let l = c.loop-number in
    let k = l.number-index in
    let below : k < length l.passed = omega (arith, l.auto.passed, c.loop-number-test.true) in
    let long : length (take k l.passed) ≡ k = length-take-le k l.passed (omega (arith, below)) in
    let yet = not_yet c.args.self.now l.invariant c.requires.fits.1 (omega (arith, long, below, l.auto.passed, c.in-Some.ensures.cases.1, c.requires.fits.2)) in
    let step = c.in-Some-step_on.ensures in
    subst (Passed c.args.self.now _ _) (sym (take_more_set l.passed k l.at.number (omega (arith, below)))) (passed_more c.args.self.now l.invariant yet.0 yet.1 c.in-Some-step_on.next step.is step.stands)

pub returns-in_default-step_on : goal.returns-in_default-step_on
returns-in_default-step_on g c =
    let l = c.loop-number in
    let k = l.number-index in
    let below : k < length l.passed = omega (arith, l.auto.passed, c.loop-number-test.true) in
    let long : length (take k l.passed) ≡ k = length-take-le k l.passed (omega (arith, below)) in
    let yet = not_yet c.args.self.now l.invariant c.requires.fits.1 (omega (arith, long, below, l.auto.passed, c.in-Some.ensures.cases.1, c.requires.fits.2)) in
    absurd (err_ok (passed_false c.args.self.now l.invariant yet.0 yet.1 c.in_default-step_on.ensures.is) c.requires.fits.1)

pub returns : goal.returns
returns g c =
    let l = c.loop-number in
    let whole : take l.number-index l.passed ≡ l.passed = take_all l.number-index l.passed (omega (arith, l.auto.passed, c.loop-number-test.false)) in
    at_last c.args.self.now (subst (Passed c.args.self.now _ _) whole l.invariant) c.requires.fits.1 (omega (arith, c.requires.fits.2, c.in-Some.ensures.cases.1, l.auto.passed))
