-- What is proved of the plain board. Assumes nothing.
use Rattle.std.specs.Prelude.{◌≡◌, ℕ, vec_items, Result, Vec}
use Rattle.std.specs.declared.alloc.Global.{Global}
use Rattle.measure.specs.Measures.{Measure}
use Rattle.table.specs.declared.types.RouteRefusal.{RouteRefusal}
use Rattle.runs.specs.declared.types.Call.{Call}
use Rattle.runs.specs.declared.types.Reply.{Reply}
use Rattle.runs.specs.declared.types.Reply.TheVariants.{Sent}
use Rattle.runs.specs.Plain.{Plain}
use Rattle.runs.specs.Runs.{Judged}

-- the same answer: two lists that hold the same are one
pub data Alike {C : Type 0} : Reply C → Reply C → Type 0 where
  same : (r : Reply C) → Alike r r
  lists : (r : Result (C × ℕ) RouteRefusal) (list list' : Vec ℕ Global) → vec_items list ≡ vec_items list' → Alike (Sent r list) (Sent r list')

-- The plain board wants one answer to a call, and no other.
abbrev pub OneAnswer : {C : Type 0} → Measure C → Type 0
OneAnswer {C} m = (p : Plain) (call : Call) (r r' : Reply C) → Judged m p call r → Judged m p call r' → Alike r r'
