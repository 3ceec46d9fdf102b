-- The plain board, and what stands for it. Assumes nothing.
use Rattle.std.specs.Prelude.{◌≡◌, ℕ, List, [], Option}
use Rattle.network.specs.declared.types.Link.{Link}
use Rattle.measure.specs.Measures.{Measure}
use Rattle.table.specs.declared.types.Entry.{Entry}
use Rattle.table.specs.declared.types.Table.{Table}
use Rattle.routes.specs.Routes.{Holds}

-- The plain board: its ASes, its links, how many links it may have (absent where the store takes no edits), the settled destinations.
pub record Plain : Type 0 where
  pub roster : List ℕ
  pub book : List Link
  pub limit : Option ℕ
  pub settled : List ℕ

-- what a store and a table memory hold
pub record Board (C : Type 0) : Type 0 where
  pub roster : List ℕ
  pub book : List Link
  pub limit : Option ℕ
  pub entries : List (Entry C)
  pub marks : List ℕ

abbrev pub board_of : {C : Type 0} → List ℕ → List Link → Option ℕ → Table C → Board C
board_of roster book limit t = record { roster = roster; book = book; limit = limit; entries = t.entries.now; marks = t.marks.now }

-- The board is that of the plain board, its memory large enough, its marks those of the settled destinations, and right at each of them.
pub record Stands {C : Type 0} (m : Measure C) (p : Plain) (b : Board C) : Type 0 where
  pub roster_is : p.roster ≡ b.roster
  pub book_is : p.book ≡ b.book
  pub limit_is : p.limit ≡ b.limit
  pub holds : Holds m b.roster b.book p.settled b.entries b.marks

-- the plain board of one that is opened: nothing is settled
abbrev pub fresh : {C : Type 0} → Board C → Plain
fresh b = record { roster = b.roster; book = b.book; limit = b.limit; settled = [] }
