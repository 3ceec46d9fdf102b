-- How the method starts and ends. Assumes nothing.
use Rattle.std.specs.Prelude.{◌≡◌, ℕ, ◌≢◌, Some, None}
use Rattle.network.specs.Rosters.{Among}
use Rattle.measure.specs.Measures.{Measure, Laws}
use Rattle.legality.specs.declared.types.Class.{Class}
use Rattle.legality.specs.Networks.{Network, Sound}
use Rattle.legality.specs.Tables.{Table, Global}
use Rattle.labels.specs.Labels.{Waiting, Going}

-- At first only the entries of the destination d are filled, and they wait.
abbrev pub LabelsStart : {C : Type 0} → Measure C → Type 0
LabelsStart {C} m =
    (net : Network) → Laws m → Sound net → (d : ℕ) → Among d net.roster → (t : Table C) (w : Waiting C) →
    ((e : Class) → t d e ≡ Some (d, m.start)) → ((a : ℕ) (e : Class) → a ≢ d → t a e ≡ None) →
    ((e : Class) → w d e ≡ Some m.start) → ((a : ℕ) (e : Class) → a ≢ d → w a e ≡ None) → Going m net d t w

-- When nothing waits, the table has the shortest legal paths.
abbrev pub LabelsEnd : {C : Type 0} → Measure C → Type 0
LabelsEnd {C} m =
    (net : Network) → Laws m → Sound net → (d : ℕ) (t : Table C) (w : Waiting C) → Going m net d t w →
    ((a : ℕ) (e : Class) → w a e ≡ None) → Global m net t d
