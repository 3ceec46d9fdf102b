-- What a walk comes to, and a walk of which a part is known. Assumes nothing.
use Rattle.std.specs.Prelude.{◌≡◌, ℕ, ◌+◌, List, ◌++◌, length, Ok, Err, Result}
use Rattle.table.specs.declared.types.RouteRefusal.{RouteRefusal}

-- how many links a walk has, or why it does not arrive
abbrev pub Links : Result (List ℕ) RouteRefusal → Result ℕ RouteRefusal → Type 0
Links whole (Ok n) = (p : List ℕ) × (whole ≡ Ok p) × (length p ≡ n + 1)
Links whole (Err x) = whole ≡ Err x

-- these ASes, and the rest of a walk
abbrev pub after : List ℕ → Result (List ℕ) RouteRefusal → Result (List ℕ) RouteRefusal
after passed (Ok p) = Ok (passed ++ p)
after passed (Err x) = Err x
