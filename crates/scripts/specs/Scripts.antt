-- Scripts that are read, and what they come to. Assumes nothing.
use Rattle.std.specs.Prelude.{◌≡◌, ℕ, true, [], map, Some, Ok, Err, vec_items, Result, Vec}
use Rattle.std.specs.declared.alloc.Global.{Global}
use Rattle.network.specs.Rosters.{is_roster, roster_from}
use Rattle.measure.specs.Delay.{delay}
use Rattle.runs.specs.declared.types.Reply.{Reply}
use Rattle.runs.specs.declared.types.RunRefusal.{RunRefusal}
use Rattle.runs.specs.declared.types.RunRefusal.TheVariants.{OutOfMemory}
use Rattle.runs.specs.Plain.{Plain}
use Rattle.runs.specs.Runs.{Run}
use Rattle.scripts.specs.declared.types.Script.{Script}

-- a script that is read whole, its roster one of at most 24 ASes
abbrev pub Whole : Script → Type 0
Whole s = is_roster 24 (vec_items s.roster) ≡ true

-- the plain board that a script starts from: its roster, if it is one, and no links
abbrev pub bare : Script → Plain
bare s = record { roster = roster_from 24 (vec_items s.roster); book = []; limit = Some 276; settled = [] }

-- each call is answered as it must be on the plain board that the calls before it left
abbrev pub Answers : Script → Vec (Reply ℕ) Global → Type 0
Answers s replies = (end : Plain) × Run delay (bare s) (map (λ x. x.call) (vec_items s.calls)) (vec_items replies) end

-- a run breaks off only where there is no memory for it
abbrev pub Refused : Result (Vec (Reply ℕ) Global) RunRefusal → Type 0
Refused (Ok replies) = Unit {0}
Refused (Err x) = x ≡ OutOfMemory
