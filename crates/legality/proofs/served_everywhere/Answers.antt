use Rattle.legality.proofs.Serves.{served_to, served_from}
use Rattle.legality.proofs.served_everywhere.Goals as goal

pub returns : goal.returns
returns c = λ net p. (served_to net p, served_from net p)
