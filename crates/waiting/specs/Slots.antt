-- Slots of which the first `used` wait: which place waits at which cost, and how many more there is room for. Assumes nothing.
use Rattle.std.specs.Prelude.{◌≡◌, ℕ, ◌-◌, ◌<◌, Bool, cond, not, ◌&&◌, ◌||◌, List, [], ◌∷◌, map, length, take, Some, None, Option, ◌==◌, nat_lt, slice_index}
use Rattle.waiting.specs.declared.types.Slot.{Slot}

-- the cost that the slots have for the place q
abbrev pub waits : {C : Type 0} → List (Slot C) → ℕ → Option C
waits [] q = None
waits (s ∷ ss) q = cond (q == s.place) (Some s.cost) (waits ss q)

-- the cost at which each place waits
abbrev pub held_in : {C : Type 0} → ℕ → List (Slot C) → ℕ → Option C
held_in used slots = waits (take used slots)

-- how many more places can be put
abbrev pub room_in : {C : Type 0} → ℕ → List (Slot C) → ℕ
room_in used slots = length slots - used

-- the places of the slots, in their order
abbrev pub places : {C : Type 0} → List (Slot C) → List ℕ
places slots = map (λ s. s.place) slots

-- no place stands twice among the first `used` slots
abbrev pub Apart : {C : Type 0} → ℕ → List (Slot C) → Type 0
Apart used slots = (i j : ℕ) → (i < used) × (j < used) × (slice_index (places slots) i ≡ slice_index (places slots) j) → i ≡ j

-- s is taken before t: it costs less, or the same at a smaller place
abbrev pub sooner : {C : Type 0} → (C → C → Bool) → Slot C → Slot C → Bool
sooner less s t = less s.cost t.cost || (not (less t.cost s.cost) && nat_lt s.place t.place)
