-- The number of each refusal of the board, and its layer: 2 for the board's own tests, 3 for the store's. Assumes nothing.
use Rattle.std.specs.Prelude.{ℕ}
use Rattle.network.specs.declared.types.EditRefusal.{EditRefusal}
use Rattle.network.specs.declared.types.EditRefusal.TheVariants.{UnknownFirst, UnknownSecond, SameAs, BadRelation, BadDelay, BadWidth, AlreadyLinked, NotLinked, Full}
use Rattle.network.specs.Numbers.{edit_number}
use Rattle.board.specs.declared.types.BoardRefusal.{BoardRefusal}
use Rattle.board.specs.declared.types.BoardRefusal.TheVariants.{TableTooSmall, Edit}

abbrev pub board_number : BoardRefusal → ℕ
board_number TableTooSmall = 31
board_number (Edit x) = edit_number x

abbrev pub edit_layer : EditRefusal → ℕ
edit_layer UnknownFirst = 2
edit_layer UnknownSecond = 2
edit_layer SameAs = 2
edit_layer BadRelation = 2
edit_layer BadDelay = 2
edit_layer BadWidth = 2
edit_layer AlreadyLinked = 3
edit_layer NotLinked = 3
edit_layer Full = 3

abbrev pub board_layer : BoardRefusal → ℕ
board_layer TableTooSmall = 2
board_layer (Edit x) = edit_layer x
