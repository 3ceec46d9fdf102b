-- Where each field of a line stands, and which name an AS. Assumes nothing.
use Rattle.std.specs.Prelude.{ℕ, ◌+◌, ◌-◌, Bool, true, false, List, take, drop}
use Rattle.link_text.specs.declared.types.Field.{Field}
use Rattle.link_text.specs.declared.types.Field.TheVariants.{First, Second, Relation, Delay, Width}

-- the first column of the field, counted from 1
abbrev pub column_of : Field → ℕ
column_of First = 1
column_of Second = 11
column_of Relation = 21
column_of Delay = 25
column_of Width = 33

-- the number of its columns
abbrev pub width_of : Field → ℕ
width_of First = 10
width_of Second = 10
width_of Relation = 4
width_of Delay = 8
width_of Width = 8

-- its bytes in a line
abbrev pub bytes_of : Field → List ℕ → List ℕ
bytes_of f line = take (width_of f) (drop (column_of f - 1) line)

-- the number of bytes of a line up to the end of the field
abbrev pub end_of : Field → ℕ
end_of f = column_of f - 1 + width_of f

-- the field names an AS
abbrev pub names_as : Field → Bool
names_as First = true
names_as Second = true
names_as Relation = false
names_as Delay = false
names_as Width = false
