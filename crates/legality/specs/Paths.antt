-- Paths of a network, the legal ones among them, and what a path costs. Assumes nothing.
use Rattle.std.specs.Prelude.{◌≡◌, ℕ, ◌⊎◌, List, [], ◌∷◌, Some, None, Option}
use Rattle.network.specs.declared.types.Figures.{Figures}
use Rattle.network.specs.declared.types.Relation.{Relation}
use Rattle.network.specs.declared.types.Relation.TheVariants.{Provider}
use Rattle.network.specs.Rosters.{Among}
use Rattle.measure.specs.Measures.{Measure}
use Rattle.legality.specs.declared.types.Class.{Class}
use Rattle.legality.specs.declared.types.Class.TheVariants.{Home, Outside}
use Rattle.legality.specs.Networks.{Network}

-- no repeats
abbrev pub Distinct : {X : Type 0} → List X → Type 0
Distinct [] = Unit {0}
Distinct (x ∷ xs) = (¬ Among x xs) × Distinct xs

abbrev pub Linked : Network → ℕ → ℕ → Type 0
Linked net a b = (r : Relation) × (f : Figures) × (net.step a b ≡ Some (r, f))

-- x is a customer of y
abbrev pub CustomerOf : Network → ℕ → ℕ → Type 0
CustomerOf net y x = (f : Figures) × (net.step y x ≡ Some (Provider, f))

-- one AS of the roster or more, each linked to the next
abbrev pub Chain : Network → List ℕ → Type 0
Chain net [] = ⊥
Chain net (a ∷ []) = Among a net.roster
Chain net (a ∷ (b ∷ r)) = Among a net.roster × Linked net a b × Chain net (b ∷ r)

pub record Path (net : Network) (p : List ℕ) : Type 0 where
  pub chain : Chain net p
  pub distinct : Distinct p

-- of every AS but the first and the last, the AS before it or the AS after it is a customer
abbrev pub Served : Network → List ℕ → Type 0
Served net [] = Unit {0}
Served net (a ∷ []) = Unit {0}
Served net (a ∷ (b ∷ [])) = Unit {0}
Served net (a ∷ (b ∷ (c ∷ r))) = (CustomerOf net b a ⊎ CustomerOf net b c) × Served net (b ∷ (c ∷ r))

pub record Legal (net : Network) (p : List ℕ) : Type 0 where
  pub path : Path net p
  pub served : Served net p

-- Every path is open to traffic at home; to traffic from outside, a path of one AS and one whose first step goes to a customer.
abbrev pub Open : Network → Class → List ℕ → Type 0
Open net Home p = Unit {0}
Open net Outside [] = Unit {0}
Open net Outside (a ∷ []) = Unit {0}
Open net Outside (a ∷ (b ∷ r)) = CustomerOf net a b

abbrev pub First : ℕ → List ℕ → Type 0
First a [] = ⊥
First a (x ∷ r) = x ≡ a

abbrev pub Second : ℕ → List ℕ → Type 0
Second b [] = ⊥
Second b (x ∷ []) = ⊥
Second b (x ∷ (y ∷ r)) = y ≡ b

abbrev pub Last : ℕ → List ℕ → Type 0
Last d [] = ⊥
Last d (x ∷ []) = x ≡ d
Last d (x ∷ (y ∷ r)) = Last d (y ∷ r)

-- p is a legal path from a to d that is open to the class e
pub record Route (net : Network) (e : Class) (a d : ℕ) (p : List ℕ) : Type 0 where
  pub legal : Legal net p
  pub first : First a p
  pub last : Last d p
  pub free : Open net e p

-- a cost with a link put in front (where there is none, which is nowhere on a path, it stays)
abbrev pub over : {C : Type 0} → Measure C → C → Option (Relation × Figures) → C
over m c (Some l) = m.extend c l.1
over m c None = c

-- the start, extended by each link from the last back to the first
abbrev pub cost : {C : Type 0} → Measure C → Network → List ℕ → C
cost m net [] = m.start
cost m net (a ∷ []) = m.start
cost m net (a ∷ (b ∷ r)) = over m (cost m net (b ∷ r)) (net.step a b)
