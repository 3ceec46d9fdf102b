-- The number, the column and the layer of a fault. Layer 1 is the text, 2 the board, 3 the store. Assumes nothing.
use Rattle.std.specs.Prelude.{ℕ, Option, Some, None}
use Rattle.network.specs.declared.types.EditRefusal.{EditRefusal}
use Rattle.network.specs.declared.types.EditRefusal.TheVariants.{UnknownFirst, UnknownSecond, SameAs, BadRelation, BadDelay, BadWidth, AlreadyLinked, NotLinked, Full}
use Rattle.board.specs.declared.types.BoardRefusal.{BoardRefusal}
use Rattle.board.specs.declared.types.BoardRefusal.TheVariants.{TableTooSmall, Edit}
use Rattle.board.specs.Numbers.{board_number, board_layer}
use Rattle.link_text.specs.declared.types.Field.{Field}
use Rattle.link_text.specs.declared.types.Field.TheVariants.{First, Second, Relation, Delay, Width}
use Rattle.link_text.specs.declared.types.TextFault.{TextFault}
use Rattle.link_text.specs.declared.types.TextFault.TheVariants.{BrokenLine, BadField, BadNumber}
use Rattle.link_text.specs.Fields.{column_of}
use Rattle.link_list.specs.declared.types.Cause.{Cause}
use Rattle.link_list.specs.declared.types.Cause.TheVariants.{TooLong, TooManyAses, Text, Board}

abbrev pub text_number : TextFault → ℕ
text_number BrokenLine = 51
text_number (BadField f) = 52
text_number (BadNumber f) = 53

abbrev pub cause_number : Cause → ℕ
cause_number TooLong = 54
cause_number (TooManyAses f) = 55
cause_number (Text t) = text_number t
cause_number (Board b) = board_number b

-- the field in question
abbrev pub text_field : TextFault → Option Field
text_field BrokenLine = None
text_field (BadField f) = Some f
text_field (BadNumber f) = Some f

abbrev pub edit_field : EditRefusal → Option Field
edit_field UnknownFirst = Some First
edit_field UnknownSecond = Some Second
edit_field SameAs = None
edit_field BadRelation = Some Relation
edit_field BadDelay = Some Delay
edit_field BadWidth = Some Width
edit_field AlreadyLinked = None
edit_field NotLinked = None
edit_field Full = None

abbrev pub board_field : BoardRefusal → Option Field
board_field TableTooSmall = None
board_field (Edit x) = edit_field x

abbrev pub cause_field : Cause → Option Field
cause_field TooLong = None
cause_field (TooManyAses f) = Some f
cause_field (Text t) = text_field t
cause_field (Board b) = board_field b

-- its first column, from 1, or 0 where the fault is no field's
abbrev pub field_column : Option Field → ℕ
field_column (Some f) = column_of f
field_column None = 0

abbrev pub cause_column : Cause → ℕ
cause_column c = field_column (cause_field c)

abbrev pub cause_layer : Cause → ℕ
cause_layer TooLong = 1
cause_layer (TooManyAses f) = 1
cause_layer (Text t) = 1
cause_layer (Board b) = board_layer b
