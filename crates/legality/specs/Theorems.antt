-- What is proved of legal paths and of tables. Assumes nothing.
use Rattle.std.specs.Prelude.{◌≡◌, ℕ, ◌⊎◌, ◌↔◌, List, ◌∷◌, ◌++◌, Some}
use Rattle.network.specs.declared.types.Link.{Link}
use Rattle.network.specs.Rosters.{Among}
use Rattle.network.specs.Sound as store
use Rattle.measure.specs.Measures.{Measure, Laws}
use Rattle.legality.specs.declared.types.Class.{Class}
use Rattle.legality.specs.Networks.{Network, Sound, net_of}
use Rattle.legality.specs.Paths.{CustomerOf, Served}
use Rattle.legality.specs.Tables.{Table, Local, Global, Walk}

-- The network of a store is sound.
abbrev pub StoresSound : Type 0
StoresSound = (roster : List ℕ) (book : List Link) → store.Sound roster book → Sound (net_of roster book)

-- A table is right of all paths exactly when each entry is the best offer of its neighbours' entries ..
abbrev pub LocalIsGlobal : {C : Type 0} → Measure C → Type 0
LocalIsGlobal {C} m = (net : Network) → Laws m → Sound net → (t : Table C) (d : ℕ) → Local m net t d ↔ Global m net t d

-- .. there is one such table ..
abbrev pub OneTable : {C : Type 0} → Measure C → Type 0
OneTable {C} m =
    (net : Network) → Laws m → (t t' : Table C) (d : ℕ) → Global m net t d → Global m net t' d →
    (a : ℕ) → Among a net.roster → (e : Class) → t a e ≡ t' a e

-- .. and its next ASes, followed, are a shortest path.
abbrev pub WalksArrive : {C : Type 0} → Measure C → Type 0
WalksArrive {C} m =
    (net : Network) → Laws m → Sound net → (t : Table C) (d : ℕ) → Global m net t d →
    (a : ℕ) → Among a net.roster → (e : Class) (b : ℕ) (c : C) → t a e ≡ Some (b, c) → Walk m net t d a e c

-- `Served`, without its recursion: of any three ASes in a row, the first or the third is a customer of the second.
abbrev pub ServedEverywhere : Type 0
ServedEverywhere =
    (net : Network) (p : List ℕ) → Served net p ↔ ((u v : List ℕ) (x y z : ℕ) → p ≡ u ++ (x ∷ (y ∷ (z ∷ v))) → CustomerOf net y x ⊎ CustomerOf net y z)
