-- A column of the table memory in a call: what its entries say at a stop. Assumes nothing.
use Rattle.std.specs.Prelude.{◌≡◌, ℕ, ◌+◌, ◌*◌, List, length, Some, None, Option, Result, slice_get}
use Rattle.network.specs.declared.stores.Store.{Ghosts as Stores}
use Rattle.measure.specs.declared.Measure.{Ghosts as Measures}
use Rattle.legality.specs.declared.types.Class.{Class}
use Rattle.legality.specs.Networks.{Network, net_of}
use Rattle.table.specs.declared.types.Entry.{Entry}
use Rattle.table.specs.declared.types.RouteRefusal.{RouteRefusal}
use Rattle.routes.specs.declared.column.Column.{Column}
use Rattle.routes.specs.declared.column.Stop.{Stop}
use Rattle.routes.specs.Raw.{entry_at, owed, next_of, walk}
use Rattle.routes.specs.Walks.{after}

module _ {S M C : Type 0} {g : Stores S} {h : Measures M C} (column : Column S M C g h) where
  abbrev pub net_in : Network
  net_in = net_of (g.roster column.store.now) (g.book column.store.now)

  -- the AS of a stop stands at its place
  abbrev pub Stands : Stop → Type 0
  Stands s = slice_get (g.roster column.store.now) s.place ≡ Some s.number

  abbrev pub entry_in : Stop → Entry C
  entry_in s = entry_at h.measure net_in column.entries.now column.to s.place s.class

  abbrev pub owed_in : Stop → C
  owed_in s = owed h.measure net_in column.entries.now column.to s.place s.class

  abbrev pub next_in : Stop → Option (ℕ × Class)
  next_in s = next_of h.measure net_in column.entries.now column.to s.place s.class

  -- the whole walk from a stop
  abbrev pub walk_in : Stop → Result (List ℕ) RouteRefusal
  walk_in s = walk h.measure net_in column.entries.now (2 * length (g.roster column.store.now)) column.to s.place s.class

  -- the walk from the stop f has passed these ASes, stands at the stop s, and may still pass so many as are left
  pub record Passed (f s : Stop) (passed : List ℕ) : Type 0 where
    pub left : ℕ
    pub sum : left + length passed ≡ 2 * length (g.roster column.store.now)
    pub stands : Stands s
    pub same : walk_in f ≡ after passed (walk h.measure net_in column.entries.now left column.to s.place s.class)

-- a stop by its place and its class
abbrev pub placed : Option Stop → Option (ℕ × Class)
placed None = None
placed (Some s) = Some (s.place, s.class)
