-- A table in which every AS of a store is settled. Assumes nothing.
use Rattle.std.specs.Prelude.{◌≡◌, ℕ, ◌≤◌, true, List, length}
use Rattle.network.specs.declared.types.Link.{Link}
use Rattle.network.specs.Rosters.{Among}
use Rattle.measure.specs.Delay.{delay}
use Rattle.table.specs.declared.types.Table.{Table}
use Rattle.routes.specs.Routes.{has, Holds}

-- These are the ASes of the roster, 24 at the most, and each of them is settled in the table.
pub record AllSettled (roster : List ℕ) (book : List Link) (ases : List ℕ) (table : Table ℕ) : Type 0 where
  pub all : ases ≡ roster
  pub few : length ases ≤ 24
  pub settled : List ℕ
  pub holds : Holds delay roster book settled table.entries.now table.marks.now
  pub each : (a : ℕ) → Among a roster → has settled a ≡ true
