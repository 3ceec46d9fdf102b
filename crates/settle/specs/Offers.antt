-- What an offer does to an entry of a column that is being filled, and to what waits. Assumes nothing.
use Rattle.std.specs.Prelude.{◌≡◌, ℕ, ◌<◌, ◌≤◌, true, ◌≢◌, ◌⊎◌, Some, None, slice_index_or, slice_set}
use Rattle.network.specs.declared.types.Relation.{Relation}
use Rattle.measure.specs.declared.Measure.{Ghosts}
use Rattle.legality.specs.declared.types.Class.{Class}
use Rattle.legality.specs.Classes.{allowed}
use Rattle.waiting.specs.Calls.{Sets}
use Rattle.waiting.specs.Lists.{held, room}
use Rattle.table.specs.declared.types.Entry.{Entry}
use Rattle.table.specs.Columns.{blank}
use Rattle.settle.specs.declared.filling.Filling.{Filling}

-- the entry p of the column
abbrev pub entry_at : {X C : Type 0} {g : Ghosts X C} → Filling X C g → ℕ → Entry C
entry_at {X} {C} {g} x p = slice_index_or x.column.now p (blank g.measure.start)

-- The entry p may be offered a cost.
pub record Ready {X C : Type 0} {g : Ghosts X C} (x : Filling X C g) (p : ℕ) (cost : C) : Type 0 where
  pub idle : (entry_at x p).next ≡ 65535 → held x.waiting p ≡ None
  pub free : (entry_at x p).next ≡ 65535 → 0 < room x.waiting
  pub lowers : (entry_at x p).next ≢ 65535 → g.measure.less cost (entry_at x p).cost ≡ true → held x.waiting p ≡ Some (entry_at x p).cost

-- What the offer of an entry makes of the entry p, and of what waits; a prime marks what stands afterwards.
pub data Offered {X C : Type 0} {g : Ghosts X C} (offer : Entry C) (p : ℕ) (x x' : Filling X C g) : Type 0 where
  puts : (entry_at x p).next ≡ 65535 → x'.column.now ≡ slice_set x.column.now p offer → Sets (held x.waiting) (held x'.waiting) p (Some offer.cost) → Offered offer p x x'
  lowers : (entry_at x p).next ≢ 65535 → g.measure.less offer.cost (entry_at x p).cost ≡ true → x'.column.now ≡ slice_set x.column.now p offer → Sets (held x.waiting) (held x'.waiting) p (Some offer.cost) → Offered offer p x x'
  dearer : (entry_at x p).next ≢ 65535 → g.measure.less (entry_at x p).cost offer.cost ≡ true → x'.column.now ≡ x.column.now → held x'.waiting ≡ held x.waiting → Offered offer p x x'
  turns : (entry_at x p).next ≢ 65535 → (entry_at x p).cost ≡ offer.cost → offer.next < (entry_at x p).next → x'.column.now ≡ slice_set x.column.now p offer → held x'.waiting ≡ held x.waiting → Offered offer p x x'
  stays : (entry_at x p).next ≢ 65535 → (entry_at x p).cost ≡ offer.cost → (entry_at x p).next ≤ offer.next → x'.column.now ≡ x.column.now → held x'.waiting ≡ held x.waiting → Offered offer p x x'

-- An offer, if a step of the relation leads the class e to e'; else nothing changes.
abbrev pub Told : {X C : Type 0} {g : Ghosts X C} → Class → Relation → Class → Entry C → ℕ → Filling X C g → Filling X C g → Type 0
Told e relation e' offer p x x' =
    ((allowed e relation ≡ Some e') × Offered offer p x x') ⊎ ((allowed e relation ≢ Some e') × (x'.column.now ≡ x.column.now) × (held x'.waiting ≡ held x.waiting))
