-- What hop and send must answer over a table memory that is right where it is marked, in the subject's words. Assumes nothing.
use Rattle.std.specs.Prelude.{◌≡◌, ℕ, ◌+◌, ◌<◌, ◌≤◌, Bool, false, not, ◌||◌, ◌≢◌, List, [], ◌∷◌, ◌++◌, length, drop, Some, None, Ok, Err, Option, Result, ◌==◌, slice_index}
use Rattle.network.specs.declared.types.Figures.{Figures}
use Rattle.network.specs.declared.types.Link.{Link}
use Rattle.network.specs.declared.types.Relation.{Relation}
use Rattle.network.specs.Rosters.{place}
use Rattle.network.specs.Causes.{first_cause, unknown}
use Rattle.measure.specs.Measures.{Measure, AtMost}
use Rattle.legality.specs.declared.types.Class.{Class}
use Rattle.legality.specs.declared.types.Class.TheVariants.{Home}
use Rattle.legality.specs.Classes.{allowed}
use Rattle.legality.specs.Networks.{Network, net_of}
use Rattle.legality.specs.Paths.{Route, cost}
use Rattle.legality.specs.Tables.{Shortest}
use Rattle.table.specs.declared.types.Entry.{Entry}
use Rattle.table.specs.declared.types.RouteRefusal.{RouteRefusal}
use Rattle.table.specs.declared.types.RouteRefusal.TheVariants.{UnknownAs, NotSettled, NoPath, ListTooShort}
use Rattle.table.specs.Memory.{small, Column}

abbrev pub has : List ℕ → ℕ → Bool
has [] a = false
has (x ∷ xs) a = x == a || has xs a

-- why a question about the way from s to d is refused, its causes in their order; settled: the settled destinations
abbrev pub route_causes : List ℕ → List ℕ → ℕ → ℕ → List (RouteRefusal × Bool)
route_causes roster settled s d = (UnknownAs, unknown roster s) ∷ ((UnknownAs, unknown roster d) ∷ ((NotSettled, not (has settled d)) ∷ []))

abbrev pub refusal : List ℕ → List ℕ → ℕ → ℕ → Option RouteRefusal
refusal roster settled s d = first_cause (route_causes roster settled s d)

-- p is the path that traffic of the class e walks to d where each AS sends it on to the smallest second AS of a least-cost path
abbrev pub Walks : {C : Type 0} → Measure C → Network → ℕ → Class → List ℕ → Type 0
Walks m net d e [] = ⊥
Walks m net d e (a ∷ []) = a ≡ d
Walks {C} m net d e (a ∷ (b ∷ r)) =
    (a ≢ d) × ((c : C) × Shortest m net d a e b c) × ((w : Relation) × (f : Figures) × (e' : Class) × (net.step a b ≡ Some (w, f)) × (allowed e w ≡ Some e') × Walks m net d e' (b ∷ r))

-- what a hop from s to d must answer traffic of the class e
pub data Hops {C : Type 0} (m : Measure C) (roster : List ℕ) (book : List Link) (settled : List ℕ) (s : ℕ) (e : Class) (d : ℕ) : Result (Option ℕ) RouteRefusal → Type 0 where
  refused : (x : RouteRefusal) → refusal roster settled s d ≡ Some x → Hops m roster book settled s e d (Err x)
  there : refusal roster settled s d ≡ None → s ≡ d → Hops m roster book settled s e d (Ok None)
  shut : refusal roster settled s d ≡ None → s ≢ d → ((q : List ℕ) → ¬ Route (net_of roster book) e s d q) → Hops m roster book settled s e d (Err NoPath)
  next : (b : ℕ) (c : C) → refusal roster settled s d ≡ None → s ≢ d → Shortest m (net_of roster book) d s e b c → Hops m roster book settled s e d (Ok (Some b))

-- what a send from s to d must answer, and what its list, ws before, holds then
pub data Sends {C : Type 0} (m : Measure C) (roster : List ℕ) (book : List Link) (settled : List ℕ) (s d : ℕ) (ws : List ℕ) : Result (C × ℕ) RouteRefusal → List ℕ → Type 0 where
  refused : (x : RouteRefusal) → refusal roster settled s d ≡ Some x → Sends m roster book settled s d ws (Err x) ws
  shut : refusal roster settled s d ≡ None → ((q : List ℕ) → ¬ Route (net_of roster book) Home s d q) → Sends m roster book settled s d ws (Err NoPath) ws
  long : (q : List ℕ) → refusal roster settled s d ≡ None → Route (net_of roster book) Home s d q → Walks m (net_of roster book) d Home q → length ws < length q →
      Sends m roster book settled s d ws (Err ListTooShort) ws
  sent : (q : List ℕ) (links : ℕ) → refusal roster settled s d ≡ None → Route (net_of roster book) Home s d q → Walks m (net_of roster book) d Home q →
      ((r : List ℕ) → Route (net_of roster book) Home s d r → AtMost m (cost m (net_of roster book) q) (cost m (net_of roster book) r)) →
      length q ≡ links + 1 → length q ≤ length ws → Sends m roster book settled s d ws (Ok (cost m (net_of roster book) q, links)) (q ++ drop (length q) ws)

-- The table memory is large enough, marks the settled destinations, and is right at each of them.
pub record Holds {C : Type 0} (m : Measure C) (roster : List ℕ) (book : List Link) (settled : List ℕ) (entries : List (Entry C)) (marks : List ℕ) : Type 0 where
  pub enough : small (length roster) entries marks ≡ false
  pub marked : (d j : ℕ) → place roster d ≡ Some j → has settled d ≡ (slice_index marks j == 1)
  pub right : (d j : ℕ) → place roster d ≡ Some j → slice_index marks j ≡ 1 → Column m roster book entries d j
