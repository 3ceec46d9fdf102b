use Rattle.legality.proofs.Links.{network_sound}
use Rattle.legality.proofs.stores_sound.Goals as goal

pub returns : goal.returns
returns c = λ roster book sound. network_sound roster book sound
