-- The table memory of n ASes: its size, its columns, and when a column is right. Assumes nothing.
use Rattle.std.specs.Prelude.{◌≡◌, ℕ, ◌+◌, ◌*◌, ◌<◌, Bool, ◌||◌, ◌⊎◌, List, length, take, drop, nat_lt, slice_index_or}
use Rattle.network.specs.declared.types.Link.{Link}
use Rattle.network.specs.Rosters.{place}
use Rattle.measure.specs.Measures.{Measure}
use Rattle.legality.specs.declared.types.Class.{Class}
use Rattle.legality.specs.Networks.{net_of}
use Rattle.legality.specs.Tables.{Table, Global}
use Rattle.table.specs.declared.types.Entry.{Entry}
use Rattle.table.specs.declared.types.Table.{Table as TableT}
use Rattle.table.specs.Columns.{blank, read, number, at_place, Row}

-- too small for n ASes, as a test ..
abbrev pub small : {C : Type 0} → ℕ → List (Entry C) → List ℕ → Bool
small n entries marks = nat_lt (length entries) (2 * n * n) || nat_lt (length marks) n

-- .. and as a fact
abbrev pub Small : {C : Type 0} → ℕ → List (Entry C) → List ℕ → Type 0
Small n entries marks = (length entries < 2 * n * n) ⊎ (length marks < n)

-- it is the same memory afterwards, which a prime marks, whatever it holds
pub record SameMemory {C : Type 0} (t t' : TableT C) : Type 0 where
  pub entries : t'.entries.ghost_name ≡ t.entries.ghost_name
  pub marks : t'.marks.ghost_name ≡ t.marks.ghost_name

-- where the entry of the destination's place d, an AS's place i and a class stands
abbrev pub index : ℕ → ℕ → ℕ → Class → ℕ
index n d i e = (d * n + i) * 2 + number e

-- the table to the AS at the place d
abbrev pub decoded : {C : Type 0} → Measure C → List ℕ → ℕ → List (Entry C) → Table C
decoded m roster d entries = λ a e. at_place (place roster a) (λ i. read roster (slice_index_or entries (index (length roster) d i e) (blank m.start)))

-- the 2 · n entries to the AS at the place d
abbrev pub column_of : {C : Type 0} → ℕ → ℕ → List (Entry C) → List (Entry C)
column_of n d entries = take (2 * n) (drop (2 * n * d) entries)

-- The column of the AS a, at the place d, has the shortest legal paths to it, and every next place in it is blank or one of the roster.
pub record Column {C : Type 0} (m : Measure C) (roster : List ℕ) (book : List Link) (entries : List (Entry C)) (a d : ℕ) : Type 0 where
  pub shortest : Global m (net_of roster book) (decoded m roster d entries) a
  pub rows : (i : ℕ) (e : Class) → i < length roster → Row m.start (length roster) (slice_index_or entries (index (length roster) d i e) (blank m.start))
