-- What each refusal of an edit says. Assumes nothing.
use Rattle.std.specs.Prelude.{ℕ, List, codes}
use Rattle.network.specs.declared.types.EditRefusal.{EditRefusal}
use Rattle.network.specs.declared.types.EditRefusal.TheVariants.{UnknownFirst, UnknownSecond, SameAs, BadRelation, BadDelay, BadWidth, AlreadyLinked, NotLinked, Full}

abbrev pub edit_words : EditRefusal → List ℕ
edit_words UnknownFirst = codes "the first AS is not in the roster"
edit_words UnknownSecond = codes "the second AS is not in the roster"
edit_words SameAs = codes "both ends are one AS"
edit_words BadRelation = codes "the relation is not 1, 2 or 3"
edit_words BadDelay = codes "the delay is not from 1 to 1000000"
edit_words BadWidth = codes "the width is not from 1 to 1000000"
edit_words AlreadyLinked = codes "the pair is linked already"
edit_words NotLinked = codes "the pair is not linked"
edit_words Full = codes "the book is full"
