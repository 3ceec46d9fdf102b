use Rattle.labels.proofs.Turns.{start}
use Rattle.labels.proofs.labels_start.Goals as goal

pub returns : goal.returns
returns g c = λ net laws sound d near t w here blank waits idle. start laws sound d t w near here blank waits idle
