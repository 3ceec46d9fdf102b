use Rattle.std.proofs.Common.{◌≡◌, length, ◌∙◌, subst, arith}
use Rattle.settle.specs.States.{Midway}
use Rattle.settle.proofs.filling.Filling.relax_links.Goals as goal

pub relax_link-requires-clause-before : goal.relax_link-requires-clause-before
relax_link-requires-clause-before g c = (c.requires.before.0, c.requires.before.1, c.loop-spot.invariant.1 c.requires.before.0 c.requires.before.1 c.requires.before.2)

pub loop-spot-preserved : goal.loop-spot-preserved
loop-spot-preserved g c = (c.relax_link.ensures.lent ∙ c.loop-spot.invariant.0, λ d q r. c.relax_link.ensures.after d q (c.loop-spot.invariant.1 d q r))

pub returns-clause-after : goal.returns-clause-after
returns-clause-after g c =
    let s = c.args.store.now in
    let all : c.loop-spot.spot ≡ length (g.S.Store.book s) = omega arith in
    λ d q r. subst (λ k. Midway (g.S.Store.roster s) (g.S.Store.book s) c.args.from k d q c.loop-spot.self) all (c.loop-spot.invariant.1 d q r)
