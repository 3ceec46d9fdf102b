use Rattle.std.proofs.Common.{[], ◌∷◌, ◌++◌, refl, ◌∙◌, length-append, arith}
use Rattle.routes.proofs.Walked.{passed_none, passed_more, passed_there, passed_false}
use Rattle.routes.proofs.column.Column.count_links.Goals as goal

pub loop-count-init : goal.loop-count-init
loop-count-init g c = ([], refl, passed_none c.args.self.now c.args.from c.requires)

pub loop-count-preserved : goal.loop-count-preserved
loop-count-preserved g c =
    let at = c.loop-count.at in
    let i = c.loop-count.invariant in (
      i.0 ++ at.number ∷ [],
      length-append i.0 (at.number ∷ []) ∙ omega (arith, i.1),
      passed_more c.args.self.now i.2 (omega (arith, i.1, c.as_count-most.ensures, c.if-count-most.false)) c.if-at-self.false c.in-Some.next c.in-Some.ensures.is c.in-Some.ensures.stands,
    )

pub returns-then-at-self : goal.returns-then-at-self
returns-then-at-self g c =
    let at = c.loop-count.at in
    let i = c.loop-count.invariant in (
      i.0 ++ at.number ∷ [],
      passed_there c.args.self.now i.2 (omega (arith, i.1, c.as_count-most.ensures, c.if-count-most.false)) c.if-at-self.true,
      length-append i.0 (at.number ∷ []) ∙ omega (arith, i.1),
    )

pub returns-in_default : goal.returns-in_default
returns-in_default g c =
    let i = c.loop-count.invariant in
    passed_false c.args.self.now i.2 (omega (arith, i.1, c.as_count-most.ensures, c.if-count-most.false)) c.if-at-self.false c.in_default.ensures.is
