-- What the bytes of a field say. Assumes nothing.
use Rattle.std.specs.Prelude.{ℕ, ◌+◌, ◌-◌, ◌*◌, Bool, true, false, cond, not, ◌&&◌, ◌||◌, List, [], ◌∷◌, ◌==◌, nat_le}

-- what is left after the spaces in front
abbrev pub digits : List ℕ → List ℕ
digits [] = []
digits (b ∷ bs) = cond (b == 32) (digits bs) (b ∷ bs)

-- the byte is a decimal digit
abbrev pub is_digit : ℕ → Bool
is_digit b = nat_le 48 b && nat_le b 57

-- every byte is a decimal digit
abbrev pub all_digits : List ℕ → Bool
all_digits [] = true
all_digits (b ∷ bs) = is_digit b && all_digits bs

-- there are none
abbrev pub none : List ℕ → Bool
none [] = true
none (b ∷ bs) = false

-- a zero in front stands alone
abbrev pub zero_alone : List ℕ → Bool
zero_alone [] = true
zero_alone (b ∷ bs) = none bs || not (b == 48)

-- a numeral without a zero too many
abbrev pub plain : List ℕ → Bool
plain ds = not (none ds) && all_digits ds && zero_alone ds

-- the decimal value of the digits ds behind digits of the value v
abbrev pub value_after : ℕ → List ℕ → ℕ
value_after v [] = v
value_after v (d ∷ ds) = value_after (10 * v + (d - 48)) ds

-- the decimal value
abbrev pub value : List ℕ → ℕ
value ds = value_after 0 ds

-- the greatest number that a field may hold
abbrev pub greatest : ℕ
greatest = 4294967295
