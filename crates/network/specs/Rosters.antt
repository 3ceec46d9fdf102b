-- Rosters: strictly increasing lists of AS numbers, and places in them, from 0. Assumes nothing.
use Rattle.std.specs.Prelude.{◌≡◌, ℕ, suc, Bool, true, cond, ◌&&◌, ◌⊎◌, List, [], ◌∷◌, length, Some, None, Ok, Err, Option, Result, ◌==◌, nat_le, nat_lt}
use Rattle.network.specs.declared.types.RosterRefusal.{RosterRefusal}
use Rattle.network.specs.declared.types.RosterRefusal.TheVariants.{NotARoster}

-- x is one of the list
abbrev pub Among : {X : Type 0} → X → List X → Type 0
Among x [] = ⊥
Among x (y ∷ ys) = (x ≡ y) ⊎ Among x ys

abbrev pub later : Option ℕ → Option ℕ
later None = None
later (Some i) = Some (suc i)

-- the place of an AS
abbrev pub place : List ℕ → ℕ → Option ℕ
place [] a = None
place (x ∷ xs) a = cond (x == a) (Some 0) (later (place xs a))

-- each number is greater than the one before it, and the first greater than `below`
abbrev pub climbs : ℕ → List ℕ → Bool
climbs below [] = true
climbs below (a ∷ more) = nat_lt below a && climbs a more

-- a roster of at most `most` ASes
abbrev pub is_roster : ℕ → List ℕ → Bool
is_roster most ases = nat_le 1 (length ases) && (nat_le (length ases) most && climbs 0 ases)

-- what the roster check answers
abbrev pub roster_answer : ℕ → List ℕ → Result (Unit {0}) RosterRefusal
roster_answer most ases = cond (is_roster most ases) (Ok tt) (Err NotARoster)

-- the roster of a store that is made over a list of numbers: no ASes if the list is no roster
abbrev pub roster_from : ℕ → List ℕ → List ℕ
roster_from most ases = cond (is_roster most ases) ases []
