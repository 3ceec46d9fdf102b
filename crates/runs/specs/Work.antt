-- What a settle and a send with memory of their own came to. Assumes nothing.
use Rattle.std.specs.Prelude.{◌≡◌, ℕ, List, length, replicate, Ok, Err, vec_items, Result, Vec}
use Rattle.std.specs.declared.alloc.AllocError.{AllocError}
use Rattle.std.specs.declared.alloc.Global.{Global}
use Rattle.network.specs.declared.types.Link.{Link}
use Rattle.measure.specs.Measures.{Measure}
use Rattle.waiting.specs.declared.types.Slot.{Slot}
use Rattle.table.specs.declared.types.Entry.{Entry}
use Rattle.table.specs.declared.types.RouteRefusal.{RouteRefusal}
use Rattle.settle.specs.Settled.{Settles}
use Rattle.routes.specs.Raw.{send_answer, send_list}

-- a settle with work memory of these sizes; where there is no such memory, the table memory is as it was
abbrev pub SettledWith : {C : Type 0} → Measure C → List ℕ → List Link → ℕ → ℕ → ℕ → List (Entry C) → List (Entry C) → List ℕ → List ℕ → Result (Result ℕ RouteRefusal) AllocError → Type 0
SettledWith {C} m roster book d waiting numbers entries entries' marks marks' (Ok r) =
    (w w' : List (Slot C)) × (k k' : List ℕ) × (length w ≡ waiting) × (length k ≡ numbers) ×
    Settles m roster book d (record { entries = entries; marks = marks; waiting = w; numbers = k }) (record { entries = entries'; marks = marks'; waiting = w'; numbers = k' }) r
SettledWith m roster book d waiting numbers entries entries' marks marks' (Err x) = (entries' ≡ entries) × (marks' ≡ marks)

-- a send that finds the path s, with a list of so much room, all 0: its answer, and the list afterwards
abbrev pub SentWith : {C : Type 0} → Result (List ℕ × C) RouteRefusal → ℕ → Result (Result (C × ℕ) RouteRefusal × Vec ℕ Global) AllocError → Type 0
SentWith s room (Ok r) = (r.0 ≡ send_answer s) × (vec_items r.1 ≡ send_list (replicate room 0) s)
SentWith s room (Err x) = Unit {0}
