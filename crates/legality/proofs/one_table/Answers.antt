use Rattle.legality.proofs.Global.{one_table}
use Rattle.legality.proofs.one_table.Goals as goal

pub returns : goal.returns
returns g c = λ net laws t t' d one other. one_table laws t t' d one other
