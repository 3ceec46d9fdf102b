use Rattle.legality.proofs.Walks.{walk}
use Rattle.legality.proofs.Global.{global_is_local}
use Rattle.legality.proofs.walks_arrive.Goals as goal

pub returns : goal.returns
returns g c = λ net laws sound t d right a near e b c' p. walk laws sound t d (global_is_local laws sound t d right) a e b c' near p
