use Rattle.runs.proofs.Unique.{one_answer}
use Rattle.runs.proofs.one_answer.Goals as goal

pub returns : goal.returns
returns g c = λ p call r r' h h'. one_answer g.M.Measure.measure g.met.M.Measure.laws p call r r' h h'
