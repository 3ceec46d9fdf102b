-- A column of the table memory, read as a table to one AS. Assumes nothing.
use Rattle.std.specs.Prelude.{◌≡◌, ℕ, ◌+◌, ◌*◌, ◌<◌, cond, not, ◌⊎◌, List, Some, None, count_by, Option, ◌==◌, slice_index, slice_index_or}
use Rattle.network.specs.Rosters.{place}
use Rattle.legality.specs.declared.types.Class.{Class}
use Rattle.legality.specs.declared.types.Class.TheVariants.{Home, Outside}
use Rattle.legality.specs.Tables.{Table}
use Rattle.table.specs.declared.types.Entry.{Entry}

abbrev pub entry : {C : Type 0} → ℕ → C → Entry C
entry n c = record { next = n; cost = c }

-- a blank entry has the start cost
abbrev pub blank : {C : Type 0} → C → Entry C
blank start = entry 65535 start

-- the place of the next AS; a blank entry has none
abbrev pub next_place : {C : Type 0} → Entry C → Option ℕ
next_place x = cond (x.next == 65535) None (Some x.next)

-- what an entry says: nothing, or the AS at the next place, and the cost
abbrev pub read : {C : Type 0} → List ℕ → Entry C → Option (ℕ × C)
read roster x = cond (x.next == 65535) None (Some (slice_index roster x.next, x.cost))

-- blank, or with one of n places for its next one
abbrev pub Row : {C : Type 0} → C → ℕ → Entry C → Type 0
Row start n x = ((x.next ≡ 65535) × (x.cost ≡ start)) ⊎ (x.next < n)

abbrev pub number : Class → ℕ
number Home = 0
number Outside = 1

-- the place in a column of the entry of an AS's place and a class
abbrev pub pair : ℕ → Class → ℕ
pair i e = 2 * i + number e

abbrev pub at_place : {X : Type 0} → Option ℕ → (ℕ → Option X) → Option X
at_place None f = None
at_place (Some i) f = f i

-- the table that a column holds
abbrev pub table : {C : Type 0} → C → List ℕ → List (Entry C) → Table C
table start roster column = λ a e. at_place (place roster a) (λ i. read roster (slice_index_or column (pair i e) (blank start)))

-- how many entries are not blank
abbrev pub filled : {C : Type 0} → List (Entry C) → ℕ
filled xs = count_by (λ x. not (x.next == 65535)) xs
