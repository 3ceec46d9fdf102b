-- What a settle answers, and what the memory holds then. Assumes nothing.
use Rattle.std.specs.Prelude.{◌≡◌, ℕ, ◌*◌, ◌<◌, Bool, cond, ◌||◌, List, length, drop, Some, None, Ok, Err, Option, Result, ◌≢◌, nat_lt, slice_index_or, slice_set}
use Rattle.network.specs.declared.types.Link.{Link}
use Rattle.network.specs.Rosters.{place}
use Rattle.measure.specs.Measures.{Measure}
use Rattle.legality.specs.declared.types.Class.{Class}
use Rattle.table.specs.declared.types.RouteRefusal.{RouteRefusal}
use Rattle.table.specs.declared.types.RouteRefusal.TheVariants.{TableTooSmall, WorkTooSmall, UnknownAs}
use Rattle.table.specs.Columns.{blank, filled}
use Rattle.table.specs.Memory.{small, index, column_of, Column}
use Rattle.settle.specs.Memory.{Memory}

-- the work memory is too small for n ASes
abbrev pub tight : {C : Type 0} → ℕ → Memory C → Bool
tight n memory = nat_lt (length memory.waiting) (2 * n) || nat_lt (length memory.numbers) (2 * n)

abbrev pub unknown : Option ℕ → Option RouteRefusal
unknown None = Some UnknownAs
unknown (Some d) = None

-- why a settle of the AS a is refused: the first cause that applies
abbrev pub cause : {C : Type 0} → List ℕ → ℕ → Memory C → Option RouteRefusal
cause roster a memory =
    cond (small (length roster) memory.entries memory.marks) (Some TableTooSmall)
    (cond (tight (length roster) memory) (Some WorkTooSmall) (unknown (place roster a)))

-- The column of the AS a, at the place d, is right and counted, and it is marked. No other entry or mark has changed, no numbers, and of the
-- waiting memory only the first 2 · n slots.
pub record Fills {C : Type 0} (m : Measure C) (roster : List ℕ) (book : List Link) (a d : ℕ) (before after : Memory C) (count : ℕ) : Type 0 where
  pub column : Column m roster book after.entries a d
  pub counted : count ≡ filled (column_of (length roster) d after.entries)
  pub others : (p : ℕ) → ((i : ℕ) (e : Class) → i < length roster → p ≢ index (length roster) d i e) → slice_index_or after.entries p (blank m.start) ≡ slice_index_or before.entries p (blank m.start)
  pub long : length after.entries ≡ length before.entries
  pub marked : after.marks ≡ slice_set before.marks d 1
  pub slots : length after.waiting ≡ length before.waiting
  pub beyond : drop (2 * length roster) after.waiting ≡ drop (2 * length roster) before.waiting
  pub numbers : after.numbers ≡ before.numbers

-- refused for the first cause, with all memory as it was, or accepted
abbrev pub Settles : {C : Type 0} → Measure C → List ℕ → List Link → ℕ → Memory C → Memory C → Result ℕ RouteRefusal → Type 0
Settles m roster book a before after (Ok count) =
    (cause roster a before ≡ None) × ((d : ℕ) × (place roster a ≡ Some d) × Fills m roster book a d before after count)
Settles m roster book a before after (Err x) = (cause roster a before ≡ Some x) × (after ≡ before)
