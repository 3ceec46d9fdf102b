-- What holds of a column that is being filled. Assumes nothing.
use Rattle.std.specs.Prelude.{◌≡◌, ℕ, ◌*◌, ◌<◌, List, length, All, Some, slice_index, slice_get}
use Rattle.network.specs.declared.types.Link.{Link}
use Rattle.network.specs.Rosters.{place}
use Rattle.measure.specs.declared.Measure.{Ghosts}
use Rattle.measure.specs.Measures.{Measure}
use Rattle.legality.specs.declared.types.Class.{Class}
use Rattle.legality.specs.Networks.{Joins, net_of}
use Rattle.legality.specs.Tables.{Table, Global}
use Rattle.labels.specs.Labels.{Waiting, Going, Relaxing, taken}
use Rattle.waiting.specs.declared.list.Waiting as lists
use Rattle.waiting.specs.Lists.{held}
use Rattle.table.specs.declared.types.Entry.{Entry}
use Rattle.table.specs.Columns.{pair, at_place, table, Row}
use Rattle.settle.specs.declared.filling.Filling.{Filling}
use Rattle.settle.specs.declared.filling.pairs.Taken.{Taken}

-- what a column holds, by AS and class
abbrev pub rows_of : {X C : Type 0} {g : Ghosts X C} → List ℕ → Filling X C g → Table C
rows_of {X} {C} {g} roster x = table g.measure.start roster x.column.now

-- what waits, by AS and class
abbrev pub waits_of : {X C : Type 0} {g : Ghosts X C} → List ℕ → lists.Waiting X C g → Waiting C
waits_of roster w = λ a e. at_place (place roster a) (λ i. held w (pair i e))

abbrev pub taken_of : {X C : Type 0} {g : Ghosts X C} → List ℕ → Filling X C g → Table C
taken_of roster x = taken (rows_of roster x) (waits_of roster x.waiting)

-- every entry of a column is blank or has a next place of the roster
abbrev pub Rows : {C : Type 0} → C → ℕ → List (Entry C) → Type 0
Rows s n column = All (Row s n) column

-- The column has its length and its rows.
pub record Tidy {X C : Type 0} {g : Ghosts X C} (roster : List ℕ) (x : Filling X C g) : Type 0 where
  pub long : length x.column.now ≡ 2 * length roster
  pub rows : Rows g.measure.start (length roster) x.column.now

-- none of the first k links is between x and b
abbrev pub Untouched : List Link → ℕ → ℕ → ℕ → Class → Type 0
Untouched book k b x y = (i : ℕ) (l : Link) → i < k → slice_get book i ≡ Some l → Joins l x b → ⊥

-- between two takes
pub record Between {X C : Type 0} {g : Ghosts X C} (roster : List ℕ) (book : List Link) (d : ℕ) (x : Filling X C g) : Type 0 where
  pub tidy : Tidy roster x
  pub going : Going g.measure (net_of roster book) d (rows_of roster x) (waits_of roster x.waiting)

-- while the links of a pair are gone through
pub record Relaxed {X C : Type 0} {g : Ghosts X C} (roster : List ℕ) (book : List Link) (d b : ℕ) (e : Class) (c : C) (q : Table C) (Fresh : ℕ → Class → Type 0) (x : Filling X C g) : Type 0 where
  pub tidy : Tidy roster x
  pub relaxing : Relaxing g.measure (net_of roster book) d b e c q Fresh (rows_of roster x) (waits_of roster x.waiting)

-- the pair `from` has made its offers over the first k links
abbrev pub Midway : {X C : Type 0} {g : Ghosts X C} → List ℕ → List Link → Taken C → ℕ → ℕ → Table C → Filling X C g → Type 0
Midway roster book from k d q x =
    Relaxed roster book d (slice_index roster from.place) from.class from.cost q (Untouched book k (slice_index roster from.place)) x

-- nothing waits any more: the column has the shortest legal paths
pub record Ended {C : Type 0} (m : Measure C) (roster : List ℕ) (book : List Link) (d : ℕ) (column : List (Entry C)) : Type 0 where
  pub shortest : Global m (net_of roster book) (table m.start roster column) d
  pub rows : Rows m.start (length roster) column
