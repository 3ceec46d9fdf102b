-- What the calls on a waiting list answer, and what waits then. Assumes nothing.
use Rattle.std.specs.Prelude.{◌≡◌, ℕ, ◌+◌, ◌-◌, ◌≤◌, Bool, false, cond, List, length, drop, is_some, is_ok, Some, None, Ok, Err, Option, Result, ◌==◌, nat_eq}
use Rattle.std.specs.Map.{update}
use Rattle.waiting.specs.declared.types.Slot.{Slot}
use Rattle.waiting.specs.declared.types.WaitingRefusal.{WaitingRefusal}
use Rattle.waiting.specs.declared.types.WaitingRefusal.TheVariants.{AlreadyWaiting, Full, NotLower}

abbrev pub Answer : Type 0
Answer = Result (Unit {0}) WaitingRefusal

-- what `put` answers for a place that waits as the option says, with this much room
abbrev pub put_answer : {C : Type 0} → Option C → ℕ → Answer
put_answer (Some c) room = Err AlreadyWaiting
put_answer None room = cond (room == 0) (Err Full) (Ok tt)

-- what `lower` answers for such a place and a cost
abbrev pub lower_answer : {C : Type 0} → (C → C → Bool) → C → Option C → Answer
lower_answer less c None = Err NotLower
lower_answer less c (Some e) = cond (less c e) (Ok tt) (Err NotLower)

-- what an accepted call makes, or what was before a refused one
abbrev pub accepted : {X : Type 0} → Answer → X → X → X
accepted (Ok u) next was = next
accepted (Err x) next was = was

-- what waits once the place p waits at the cost c, or no more
abbrev pub with_place : {C : Type 0} → (ℕ → Option C) → ℕ → Option C → ℕ → Option C
with_place held p o = update nat_eq held p o

-- f is what waited, and g what waits then: the place p has o, every other what it had
abbrev pub Sets : {C : Type 0} → (ℕ → Option C) → (ℕ → Option C) → ℕ → Option C → Type 0
Sets f g p o = (q : ℕ) → g q ≡ with_place f p o q

-- A call with this answer, that makes what waits `next` and the room `left`; a prime marks what stands afterwards.
-- A refused call leaves the memory as it was, and an accepted one all of it that is free then.
pub record Changes {C : Type 0} (answer : Answer) (next : ℕ → Option C) (left : ℕ) (held held' : ℕ → Option C) (room room' : ℕ) (memory memory' : List (Slot C)) (r : Answer) : Type 0 where
  pub answer_is : r ≡ answer
  pub held_then : (q : ℕ) → held' q ≡ accepted answer next held q
  pub room_then : room' ≡ accepted answer left room
  pub refused : is_ok answer ≡ false → memory' ≡ memory
  pub beyond : drop (length memory - room') memory' ≡ drop (length memory - room') memory
  pub long : length memory' ≡ length memory

-- the place p is put at the cost c
abbrev pub Put : {C : Type 0} → ℕ → C → (ℕ → Option C) → (ℕ → Option C) → ℕ → ℕ → List (Slot C) → List (Slot C) → Answer → Type 0
Put p c held held' room room' memory memory' r =
    Changes (put_answer (held p) room) (with_place held p (Some c)) (room - 1) held held' room room' memory memory' r

-- the cost of the place p goes down to c
abbrev pub Lower : {C : Type 0} → (C → C → Bool) → ℕ → C → (ℕ → Option C) → (ℕ → Option C) → ℕ → ℕ → List (Slot C) → List (Slot C) → Answer → Type 0
Lower less p c held held' room room' memory memory' r =
    Changes (lower_answer less c (held p)) (with_place held p (Some c)) room held held' room room' memory memory' r

-- the place p waits at the cost c, and of all that wait it is the least: none costs less, and none of the same cost has a smaller place
pub record Least {C : Type 0} (less : C → C → Bool) (held : ℕ → Option C) (p : ℕ) (c : C) : Type 0 where
  pub waits : held p ≡ Some c
  pub cheapest : (q : ℕ) (e : C) → held q ≡ Some e → less e c ≡ false
  pub smallest : (q : ℕ) (e : C) → held q ≡ Some e → less c e ≡ false → p ≤ q

-- the least is answered, or that nothing waits
abbrev pub Taken : {C : Type 0} → (C → C → Bool) → (ℕ → Option C) → Option (Slot C) → Type 0
Taken less held None = (q : ℕ) → held q ≡ None
Taken less held (Some s) = Least less held s.place s.cost

-- what waits once the answer is taken out
abbrev pub less_taken : {C : Type 0} → (ℕ → Option C) → Option (Slot C) → ℕ → Option C
less_taken held None = held
less_taken held (Some s) = with_place held s.place None

-- the room that the answer makes
abbrev pub freed : {C : Type 0} → Option (Slot C) → ℕ
freed None = 0
freed (Some s) = 1

-- the least is taken out
pub record Take {C : Type 0} (less : C → C → Bool) (held held' : ℕ → Option C) (room room' : ℕ) (memory memory' : List (Slot C)) (r : Option (Slot C)) : Type 0 where
  pub answer : Taken less held r
  pub held_then : (q : ℕ) → held' q ≡ less_taken held r q
  pub room_then : room' ≡ room + freed r
  pub refused : is_some r ≡ false → memory' ≡ memory
  pub beyond : drop (length memory - room) memory' ≡ drop (length memory - room) memory
  pub long : length memory' ≡ length memory
