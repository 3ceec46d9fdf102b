-- The number of each refusal. Assumes nothing.
use Rattle.std.specs.Prelude.{ℕ}
use Rattle.network.specs.declared.types.EditRefusal.{EditRefusal}
use Rattle.network.specs.declared.types.EditRefusal.TheVariants.{UnknownFirst, UnknownSecond, SameAs, BadRelation, BadDelay, BadWidth, AlreadyLinked, NotLinked, Full}
use Rattle.network.specs.declared.types.RosterRefusal.{RosterRefusal}
use Rattle.network.specs.declared.types.RosterRefusal.TheVariants.{NotARoster}

abbrev pub edit_number : EditRefusal → ℕ
edit_number UnknownFirst = 11
edit_number UnknownSecond = 11
edit_number SameAs = 12
edit_number BadRelation = 13
edit_number BadDelay = 14
edit_number BadWidth = 15
edit_number AlreadyLinked = 16
edit_number NotLinked = 17
edit_number Full = 18

abbrev pub roster_number : RosterRefusal → ℕ
roster_number NotARoster = 33
