-- Tables of next ASes and costs: what an entry owes its neighbours' entries (`Local`), and what it owes all paths (`Global`). Assumes nothing.
use Rattle.std.specs.Prelude.{◌≡◌, ℕ, ◌≤◌, ◌≢◌, List, [], ◌∷◌, length, Some, None, Option}
use Rattle.network.specs.declared.types.Figures.{Figures}
use Rattle.network.specs.declared.types.Relation.{Relation}
use Rattle.network.specs.Rosters.{Among}
use Rattle.measure.specs.Measures.{Measure, AtMost, Within}
use Rattle.legality.specs.declared.types.Class.{Class}
use Rattle.legality.specs.Classes.{allowed}
use Rattle.legality.specs.Networks.{Network}
use Rattle.legality.specs.Paths.{Route, First, Second, cost}

-- for an AS and a class: blank, or the next AS and the cost
abbrev pub Table : Type 0 → Type 0
Table C = ℕ → Class → Option (ℕ × C)

-- b offers the cost c to traffic of the class e at a
pub record Offers {C : Type 0} (m : Measure C) (net : Network) (t : Table C) (a : ℕ) (e : Class) (b : ℕ) (c : C) : Type 0 where
  pub relation : Relation
  pub figures : Figures
  pub class : Class
  pub next : ℕ
  pub base : C
  pub linked : net.step a b ≡ Some (relation, figures)
  pub permitted : allowed e relation ≡ Some class
  pub entry : t b class ≡ Some (next, base)
  pub within : Within m base
  pub worth : c ≡ m.extend base figures

-- b's offer c is the best, and b the smallest AS that makes it
pub record Chosen {C : Type 0} (m : Measure C) (net : Network) (t : Table C) (a : ℕ) (e : Class) (b : ℕ) (c : C) : Type 0 where
  pub within : Within m c
  pub offered : Offers m net t a e b c
  pub least : (b' : ℕ) (c' : C) → Offers m net t a e b' c' → AtMost m c c'
  pub smallest : (b' : ℕ) → Offers m net t a e b' c → b ≤ b'

pub data LocalAt {C : Type 0} (m : Measure C) (net : Network) (t : Table C) (a : ℕ) (e : Class) : Type 0 where
  blank : t a e ≡ None → ((b : ℕ) (c : C) → ¬ Offers m net t a e b c) → LocalAt m net t a e
  filled : (b : ℕ) (c : C) → t a e ≡ Some (b, c) → Chosen m net t a e b c → LocalAt m net t a e

-- every entry is the best offer of the neighbours' entries
pub record Local {C : Type 0} (m : Measure C) (net : Network) (t : Table C) (d : ℕ) : Type 0 where
  pub arrived : (e : Class) → t d e ≡ Some (d, m.start)
  pub elsewhere : (a : ℕ) → Among a net.roster → a ≢ d → (e : Class) → LocalAt m net t a e

-- c is the least cost of a legal path from a to d that is open to e, and b the smallest second AS of such a path of the cost c
pub record Shortest {C : Type 0} (m : Measure C) (net : Network) (d a : ℕ) (e : Class) (b : ℕ) (c : C) : Type 0 where
  pub path : List ℕ
  pub route : Route net e a d path
  pub second : Second b path
  pub costs : cost m net path ≡ c
  pub least : (p : List ℕ) → Route net e a d p → AtMost m c (cost m net p)
  pub smallest : (p : List ℕ) → Route net e a d p → cost m net p ≡ c → (b' : ℕ) → Second b' p → b ≤ b'

pub data GlobalAt {C : Type 0} (m : Measure C) (net : Network) (t : Table C) (d a : ℕ) (e : Class) : Type 0 where
  blank : t a e ≡ None → ((p : List ℕ) → ¬ Route net e a d p) → GlobalAt m net t d a e
  filled : (b : ℕ) (c : C) → t a e ≡ Some (b, c) → Shortest m net d a e b c → GlobalAt m net t d a e

-- every entry is the shortest of all legal paths, or blank where there is none
pub record Global {C : Type 0} (m : Measure C) (net : Network) (t : Table C) (d : ℕ) : Type 0 where
  pub arrived : (e : Class) → t d e ≡ Some (d, m.start)
  pub elsewhere : (a : ℕ) → Among a net.roster → a ≢ d → (e : Class) → GlobalAt m net t d a e

-- p is what traffic of the class e passes that goes to the table's next AS until it is at d
abbrev pub Follows : {C : Type 0} → Network → Table C → ℕ → Class → List ℕ → Type 0
Follows net t d e [] = ⊥
Follows net t d e (a ∷ []) = a ≡ d
Follows {C} net t d e (a ∷ (b ∷ r)) =
    (a ≢ d) × ((c : C) × (t a e ≡ Some (b, c))) × ((w : Relation) × (f : Figures) × (e' : Class) × (net.step a b ≡ Some (w, f)) × (allowed e w ≡ Some e') × Follows net t d e' (b ∷ r))

-- Who goes by the table's next ASes from a comes to d, on a legal path of the cost c and on no other, past no more ASes than the network has.
pub record Walk {C : Type 0} (m : Measure C) (net : Network) (t : Table C) (d a : ℕ) (e : Class) (c : C) : Type 0 where
  pub ases : List ℕ
  pub follows : Follows net t d e ases
  pub route : Route net e a d ases
  pub costs : cost m net ases ≡ c
  pub short : length ases ≤ length net.roster
  pub only : (p : List ℕ) → First a p → Follows net t d e p → p ≡ ases
