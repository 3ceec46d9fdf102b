-- What is kept of a field's bytes while they are read from the left. Assumes nothing.
use Rattle.std.specs.Prelude.{ℕ, ◌+◌, ◌-◌, ◌*◌, cond, not, ◌&&◌, List, [], ◌∷◌, Err, Result, ◌==◌, nat_le}
use Rattle.link_text.specs.Numerals.{is_digit, greatest}
use Rattle.link_text.specs.Answers.{number_answer}
use Rattle.link_text.specs.declared.types.Field.{Field}
use Rattle.link_text.specs.declared.types.TextFault.{TextFault}
use Rattle.link_text.specs.declared.types.TextFault.TheVariants.{BadField, BadNumber}
use Rattle.link_text.specs.declared.numeral.Numeral.{Numeral}
use Rattle.link_text.specs.declared.numeral.Numeral.TheVariants.{Blank, Number, TooGreat, Broken}

-- the number n, if a field may hold it
abbrev pub sized : ℕ → Numeral
sized n = cond (nat_le n greatest) (Number n) TooGreat

-- one byte more
abbrev pub next : Numeral → ℕ → Numeral
next Blank b = cond (b == 32) Blank (cond (is_digit b) (Number (b - 48)) Broken)
next (Number v) b = cond (is_digit b && not (v == 0)) (sized (10 * v + (b - 48))) Broken
next TooGreat b = cond (is_digit b) TooGreat Broken
next Broken b = Broken

-- all bytes that are left
abbrev pub read : Numeral → List ℕ → Numeral
read s [] = s
read s (b ∷ bs) = read (next s b) bs

-- what the field f answers when its bytes are read
abbrev pub kept_answer : Field → Numeral → Result ℕ TextFault
kept_answer f Blank = Err (BadField f)
kept_answer f (Number n) = number_answer f n
kept_answer f TooGreat = Err (BadNumber f)
kept_answer f Broken = Err (BadField f)
