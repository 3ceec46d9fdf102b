-- The memory that is lent to a settle. Assumes nothing.
use Rattle.std.specs.Prelude.{◌≡◌, ℕ, List}
use Rattle.measure.specs.declared.Measure.{Ghosts}
use Rattle.waiting.specs.declared.types.Slot.{Slot}
use Rattle.table.specs.declared.types.Entry.{Entry}
use Rattle.table.specs.declared.types.Table.{Table}
use Rattle.settle.specs.declared.types.Work.{Work}
use Rattle.settle.specs.declared.filling.Filling.{Filling}

pub record Memory (C : Type 0) : Type 0 where
  pub entries : List (Entry C)
  pub marks : List ℕ
  pub waiting : List (Slot C)
  pub numbers : List ℕ

-- what the table memory and the work memory hold
abbrev pub memory_of : {C : Type 0} → Table C → Work C → Memory C
memory_of t w = record { entries = t.entries.now; marks = t.marks.now; waiting = w.waiting.now; numbers = w.numbers.now }

-- it is the same memory afterwards, which a prime marks
pub record Lent {C : Type 0} (t t' : Table C) (w w' : Work C) : Type 0 where
  pub entries : t'.entries.ghost_name ≡ t.entries.ghost_name
  pub marks : t'.marks.ghost_name ≡ t.marks.ghost_name
  pub waiting : w'.waiting.ghost_name ≡ w.waiting.ghost_name
  pub numbers : w'.numbers.ghost_name ≡ w.numbers.ghost_name

-- the column of a filling is the same memory afterwards
abbrev pub SameColumn : {X C : Type 0} {g : Ghosts X C} → Filling X C g → Filling X C g → Type 0
SameColumn x x' = x'.column.ghost_name ≡ x.column.ghost_name
