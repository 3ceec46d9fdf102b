-- The rows of a table: for each ordered pair of different ASes the route that traffic takes, or none. Assumes nothing.
use Rattle.std.specs.Prelude.{◌≡◌, ℕ, ◌+◌, cond, List, [], ◌∷◌, ◌++◌, length, Some, None, ◌==◌}
use Rattle.measure.specs.Measures.{AtMost}
use Rattle.measure.specs.Delay.{delay}
use Rattle.legality.specs.declared.types.Class.TheVariants.{Home}
use Rattle.legality.specs.Networks.{Network}
use Rattle.legality.specs.Paths.{Route, Second, cost}
use Rattle.routes.specs.Routes.{Walks}
use Rattle.listing.specs.declared.types.Route.{Route as Told}
use Rattle.listing.specs.declared.types.Row.{Row}

-- The row tells the route of home traffic from s to d: a legal path of the least delay, on which each AS forwards to the smallest next AS of
-- such a path; it has none exactly where there is no legal path.
pub data RowRight (net : Network) (s d : ℕ) (row : Row) : Type 0 where
  there : (q : List ℕ) (told : Told) → Route net Home s d q → Walks delay net d Home q → ((r : List ℕ) → Route net Home s d r → AtMost delay (cost delay net q) (cost delay net r)) →
      row.source ≡ s → row.destination ≡ d → row.route ≡ Some told → Second told.next q → length q ≡ told.links + 1 → told.delay ≡ cost delay net q → RowRight net s d row
  nowhere : ((q : List ℕ) → ¬ Route net Home s d q) → row.source ≡ s → row.destination ≡ d → row.route ≡ None → RowRight net s d row

-- the pairs of s and each other AS, in the order of the ASes
abbrev pub pairs_of : ℕ → List ℕ → List (ℕ × ℕ)
pairs_of s [] = []
pairs_of s (d ∷ ds) = cond (d == s) (pairs_of s ds) ((s, d) ∷ pairs_of s ds)

-- the pairs of each of the sources and each other AS
abbrev pub pairs_from : List ℕ → List ℕ → List (ℕ × ℕ)
pairs_from [] ases = []
pairs_from (s ∷ ss) ases = pairs_of s ases ++ pairs_from ss ases

-- a row for each pair, and no other
abbrev pub RowsRight : Network → List (ℕ × ℕ) → List Row → Type 0
RowsRight net [] [] = Unit {0}
RowsRight net [] (r ∷ rs) = ⊥
RowsRight net (p ∷ ps) [] = ⊥
RowsRight net (p ∷ ps) (r ∷ rs) = RowRight net p.0 p.1 r × RowsRight net ps rs
