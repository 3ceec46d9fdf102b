-- What the reader answers for a field, for the start of a line and for a line. Assumes nothing.
use Rattle.std.specs.Prelude.{ℕ, Bool, cond, not, ◌&&◌, ◌||◌, List, length, Ok, Err, Result, ◌==◌, nat_lt, slice_index}
use Rattle.link_text.specs.declared.types.Field.{Field}
use Rattle.link_text.specs.declared.types.Field.TheVariants.{First, Second, Relation, Delay, Width}
use Rattle.link_text.specs.declared.types.TextFault.{TextFault}
use Rattle.link_text.specs.declared.types.TextFault.TheVariants.{BrokenLine, BadField, BadNumber}
use Rattle.link_text.specs.declared.types.Line.{Line}
use Rattle.link_text.specs.Fields.{bytes_of, end_of, names_as}
use Rattle.link_text.specs.Numerals.{digits, plain, value, greatest}

-- the number n in the field f: it is not above the greatest, and no AS is 0
abbrev pub number_answer : Field → ℕ → Result ℕ TextFault
number_answer f n = cond (nat_lt greatest n || (names_as f && n == 0)) (Err (BadNumber f)) (Ok n)

-- the bytes bs in the field f
abbrev pub field_answer : Field → List ℕ → Result ℕ TextFault
field_answer f bs = cond (plain (digits bs)) (number_answer f (value (digits bs))) (Err (BadField f))

-- no line of 40 columns and a line feed begins here
abbrev pub broken : List ℕ → Bool
broken bs = nat_lt (length bs) 41 || not (slice_index bs 40 == 10)

-- the start of a line
abbrev pub start_answer : List ℕ → Result (Unit {0}) TextFault
start_answer bs = cond (broken bs) (Err BrokenLine) (Ok tt)

-- the first fault stands
abbrev pub and_then : {A B : Type 0} → Result A TextFault → (A → Result B TextFault) → Result B TextFault
and_then (Ok x) f = f x
and_then (Err e) f = Err e

-- the field f of the line
abbrev pub field_of : List ℕ → Field → Result ℕ TextFault
field_of bs f = field_answer f (bytes_of f bs)

-- the line in front of bs: its first fault, or what it says
abbrev pub line_answer : List ℕ → Result Line TextFault
line_answer bs =
    and_then (start_answer bs) (λ _.
    and_then (field_of bs First) (λ a.
    and_then (field_of bs Second) (λ b.
    and_then (field_of bs Relation) (λ r.
    and_then (field_of bs Delay) (λ d.
    and_then (field_of bs Width) (λ w. Ok (record { first = a; second = b; relation = r; delay = d; width = w })))))))

-- the number of bytes of a line that are read at this answer
abbrev pub line_reach : Result Line TextFault → ℕ
line_reach (Ok l) = 41
line_reach (Err BrokenLine) = 0
line_reach (Err (BadField f)) = end_of f
line_reach (Err (BadNumber f)) = end_of f
