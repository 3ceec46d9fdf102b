-- What each refusal of the board says. Assumes nothing.
use Rattle.std.specs.Prelude.{ℕ, List, codes}
use Rattle.network.specs.Words.{edit_words}
use Rattle.board.specs.declared.types.BoardRefusal.{BoardRefusal}
use Rattle.board.specs.declared.types.BoardRefusal.TheVariants.{TableTooSmall, Edit}

abbrev pub board_words : BoardRefusal → List ℕ
board_words TableTooSmall = codes "the table memory is too small"
board_words (Edit x) = edit_words x
