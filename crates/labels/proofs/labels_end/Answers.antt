use Rattle.labels.proofs.Turns.{shortest}
use Rattle.labels.proofs.labels_end.Goals as goal

pub returns : goal.returns
returns g c = λ net laws sound d t w going idle. shortest laws sound d t w going idle
