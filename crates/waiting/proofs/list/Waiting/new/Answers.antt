use Rattle.std.proofs.Common.{refl, arith}
use Rattle.waiting.specs.Lists.{held, room}
use Rattle.waiting.proofs.list.Waiting.new.Goals as goal

pub returns : goal.returns
unfolding held room
returns g c = record { none = λ q. refl; room = omega arith; memory = refl; lent = refl }
