-- What the two classes of traffic may do. A step's relation is what the AS that is left is to the AS that is reached. Assumes nothing.
use Rattle.std.specs.Prelude.{Some, None, Option}
use Rattle.network.specs.declared.types.Relation.{Relation}
use Rattle.network.specs.declared.types.Relation.TheVariants.{Provider, Customer, Peer}
use Rattle.legality.specs.declared.types.Class.{Class}
use Rattle.legality.specs.declared.types.Class.TheVariants.{Home, Outside}

-- the class after a step, if the step is allowed
abbrev pub allowed : Class → Relation → Option Class
allowed Home Customer = Some Home
allowed Home Provider = Some Outside
allowed Home Peer = Some Outside
allowed Outside Customer = None
allowed Outside Provider = Some Outside
allowed Outside Peer = None
