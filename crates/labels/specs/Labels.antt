-- The label-setting method over plain functions: what is taken, what waits, and what holds on the way. Assumes nothing.
use Rattle.std.specs.Prelude.{◌≡◌, ℕ, suc, ◌+◌, ◌≤◌, true, ◌≢◌, ◌⊎◌, List, [], ◌∷◌, length, Some, None, Option}
use Rattle.std.specs.List.{AllByRecursion}
use Rattle.network.specs.declared.types.Figures.{Figures}
use Rattle.network.specs.Limits.{Limits}
use Rattle.network.specs.Rosters.{Among}
use Rattle.measure.specs.Measures.{Measure, AtMost, total}
use Rattle.legality.specs.declared.types.Class.{Class}
use Rattle.legality.specs.declared.types.Class.TheVariants.{Home, Outside}
use Rattle.legality.specs.Networks.{Network}
use Rattle.legality.specs.Tables.{Table, Offers}

-- the cost at which a AS waits for a class
abbrev pub Waiting : Type 0 → Type 0
Waiting C = ℕ → Class → Option C

abbrev pub done : {C : Type 0} → Option (ℕ × C) → Option C → Option (ℕ × C)
done o None = o
done o (Some k) = None

-- the entries that are taken: filled, and not waiting
abbrev pub taken : {C : Type 0} → Table C → Waiting C → Table C
taken t w = λ a e. done (t a e) (w a e)

abbrev pub one : {X : Type 0} → Option X → ℕ
one None = 0
one (Some x) = 1

-- how many entries a table has at the ASes of a list
abbrev pub size : {C : Type 0} → Table C → List ℕ → ℕ
size t [] = 0
size t (a ∷ l) = one (t a Home) + (one (t a Outside) + size t l)

-- c is the cost of at most k links
pub record Reach {C : Type 0} (m : Measure C) (k : ℕ) (c : C) : Type 0 where
  pub figures : List Figures
  pub limits : AllByRecursion Limits figures
  pub short : length figures ≤ k
  pub costs : c ≡ total m figures

-- The entry o is the best of the offers O, and from the first AS that makes it.
pub data Best {C : Type 0} (m : Measure C) (O : ℕ → C → Type 0) (o : Option (ℕ × C)) : Type 0 where
  blank : o ≡ None → ((b : ℕ) (c : C) → ¬ O b c) → Best m O o
  filled : (b : ℕ) (c : C) → o ≡ Some (b, c) → O b c → ((b' : ℕ) (c' : C) → O b' c' → AtMost m c c') → ((b' : ℕ) → O b' c → b ≤ b') → Best m O o

-- The offer c of b came to the entry `old`, which waited as `w` says: it and what waits are `new` and `w'` then.
pub data Outcome {C : Type 0} (m : Measure C) (old : Option (ℕ × C)) (w : Option C) (b : ℕ) (c : C) (new : Option (ℕ × C)) (w' : Option C) : Type 0 where
  fresh : old ≡ None → new ≡ Some (b, c) → w' ≡ Some c → Outcome m old w b c new w'
  lower : (x : ℕ) (v : C) → old ≡ Some (x, v) → m.less c v ≡ true → new ≡ Some (b, c) → w' ≡ Some c → Outcome m old w b c new w'
  dearer : (x : ℕ) (v : C) → old ≡ Some (x, v) → m.less v c ≡ true → new ≡ Some (x, v) → w' ≡ w → Outcome m old w b c new w'
  tied : (x y : ℕ) → old ≡ Some (x, c) → new ≡ Some (y, c) → y ≤ b → y ≤ x → (y ≡ b) ⊎ (y ≡ x) → w' ≡ w → Outcome m old w b c new w'

-- g is f but at (a, e)
abbrev pub Elsewhere : {X : Type 0} → (ℕ → Class → X) → (ℕ → Class → X) → ℕ → Class → Type 0
Elsewhere f g a e = (x : ℕ) (y : Class) → ((x ≡ a) × (y ≡ e) → ⊥) → g x y ≡ f x y

-- what holds between two takes
pub record Going {C : Type 0} (m : Measure C) (net : Network) (d : ℕ) (t : Table C) (w : Waiting C) : Type 0 where
  pub arrived : (e : Class) → t d e ≡ Some (d, m.start)
  -- what waits is filled, at the cost that it waits at
  pub waiting : (a : ℕ) (e : Class) (k : C) → w a e ≡ Some k → (x : ℕ) × (t a e ≡ Some (x, k))
  pub inside : (a : ℕ) (e : Class) (x : ℕ) (k : C) → t a e ≡ Some (x, k) → Among a net.roster
  -- nothing taken is dearer than what waits
  pub order : (a : ℕ) (e : Class) (x : ℕ) (k : C) → taken t w a e ≡ Some (x, k) → (a' : ℕ) (e' : Class) (k' : C) → w a' e' ≡ Some k' → AtMost m k k'
  -- each cost is one of at most as many links as pairs are taken
  pub reached : (a : ℕ) (e : Class) (x : ℕ) (k : C) → t a e ≡ Some (x, k) → Reach m (size (taken t w) net.roster) k
  -- each entry is the best that the taken pairs offer
  pub best : (a : ℕ) → Among a net.roster → a ≢ d → (e : Class) → Best m (Offers m net (taken t w) a e) (t a e)

-- what holds while the links of the pair (b, e') are gone through, which was taken last, at the cost c. q: what is taken; `Fresh`: the pairs that its offer has not come to yet.
pub record Relaxing {C : Type 0} (m : Measure C) (net : Network) (d b : ℕ) (e' : Class) (c : C) (q : Table C) (Fresh : ℕ → Class → Type 0) (t : Table C) (w : Waiting C) : Type 0 where
  pub old : Table C
  pub before : old b e' ≡ None
  pub pivot : (x : ℕ) × (q b e' ≡ Some (x, c))
  pub others : Elsewhere old q b e'
  pub ceiling : (a : ℕ) (e : Class) (x : ℕ) (k : C) → q a e ≡ Some (x, k) → AtMost m k c
  pub source : Reach m (size old net.roster) c
  pub more : suc (size old net.roster) ≤ size q net.roster
  pub arrived : (e : Class) → t d e ≡ Some (d, m.start)
  pub waiting : (a : ℕ) (e : Class) (k : C) → w a e ≡ Some k → (x : ℕ) × (t a e ≡ Some (x, k))
  pub inside : (a : ℕ) (e : Class) (x : ℕ) (k : C) → t a e ≡ Some (x, k) → Among a net.roster
  pub settled : (a : ℕ) (e : Class) → taken t w a e ≡ q a e
  pub floor : (a : ℕ) (e : Class) (k : C) → w a e ≡ Some k → AtMost m c k
  pub reached : (a : ℕ) (e : Class) (x : ℕ) (k : C) → t a e ≡ Some (x, k) → Reach m (size q net.roster) k
  pub best : (a : ℕ) → Among a net.roster → a ≢ d → (e : Class) → Best m (Offers m net q a e) (t a e) ⊎ (Best m (Offers m net old a e) (t a e) × Fresh a e)

-- `Fresh`, less one pair
abbrev pub Less : (ℕ → Class → Type 0) → ℕ → Class → ℕ → Class → Type 0
Less Fresh a e x y = Fresh x y × ((x ≡ a) × (y ≡ e) → ⊥)
