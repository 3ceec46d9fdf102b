-- What the tests of an edit answer. Assumes nothing.
use Rattle.std.specs.Prelude.{ℕ, Bool, not, ◌&&◌, List, [], ◌∷◌, Some, None, Ok, Err, Option, Result, nat_le}
use Rattle.std.specs.Option.{unwrap_or}
use Rattle.network.specs.declared.types.EditRefusal.{EditRefusal}
use Rattle.network.specs.declared.types.EditRefusal.TheVariants.{BadRelation}
use Rattle.network.specs.Rosters.{place}

-- x if there is no cause to refuse, else the cause
abbrev pub judged : {R X : Type 0} → Option R → X → Result X R
judged None x = Ok x
judged (Some cause) x = Err cause

-- the places of two ASes, if they are in the roster
abbrev pub places : List ℕ → ℕ → ℕ → ℕ × ℕ
places roster a b = (unwrap_or (place roster a) 0, unwrap_or (place roster b) 0)

-- why the number of a relation is refused
abbrev pub relation_causes : ℕ → List (EditRefusal × Bool)
relation_causes relation = (BadRelation, not (nat_le 1 relation && nat_le relation 3)) ∷ []
