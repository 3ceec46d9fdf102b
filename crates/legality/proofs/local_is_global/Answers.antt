use Rattle.legality.proofs.Local.{local_is_global}
use Rattle.legality.proofs.Global.{global_is_local}
use Rattle.legality.proofs.local_is_global.Goals as goal

pub returns : goal.returns
returns g c = λ net laws sound t d. (local_is_global laws sound t d, global_is_local laws sound t d)
