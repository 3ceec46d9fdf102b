-- What is known of a waiting list: what waits, the room, and the memory that is lent. Assumes nothing.
use Rattle.std.specs.Prelude.{ℕ, List, Option}
use Rattle.std.specs.Borrow.{GName}
use Rattle.waiting.specs.declared.types.Slot.{Slot}
use Rattle.measure.specs.declared.Measure.{Ghosts}
use Rattle.waiting.specs.declared.list.Waiting.{Waiting}
use Rattle.waiting.specs.Slots.{held_in, room_in}

-- the cost at which each place waits
unfoldable pub held : {X C : Type 0} {g : Ghosts X C} → Waiting X C g → ℕ → Option C
held w = held_in w.used w.slots.now

-- how many more places can be put
unfoldable pub room : {X C : Type 0} {g : Ghosts X C} → Waiting X C g → ℕ
room w = room_in w.used w.slots.now

-- the memory that the list is kept in
abbrev pub memory : {X C : Type 0} {g : Ghosts X C} → Waiting X C g → List (Slot C)
memory w = w.slots.now

-- the name under which that memory is lent
abbrev pub lent : {X C : Type 0} {g : Ghosts X C} → Waiting X C g → GName
lent w = w.slots.ghost_name
