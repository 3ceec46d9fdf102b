-- What a path can be measured by, and the laws of a measure. Assumes nothing.
use Rattle.std.specs.Prelude.{◌≡◌, ◌≤◌, Bool, true, false, List, length}
use mathlib.Core.List.{foldr}
use Rattle.std.specs.List.{AllByRecursion}
use Rattle.network.specs.declared.types.Figures.{Figures}
use Rattle.network.specs.Limits.{Limits}

-- C: the costs. `start`: the cost of no link; `extend c f`: the cost c with a link of the figures f put in front; `within`: the costs in range.
pub record Measure (C : Type 0) : Type 0 where
  pub start : C
  pub extend : C → Figures → C
  pub less : C → C → Bool
  pub within : C → Bool

-- p is no dearer than q
abbrev pub AtMost : {C : Type 0} → Measure C → C → C → Type 0
AtMost m p q = m.less q p ≡ false

-- c is in range
abbrev pub Within : {C : Type 0} → Measure C → C → Type 0
Within m c = m.within c ≡ true

-- the cost of links with the figures fs, the last one counted first
abbrev pub total : {C : Type 0} → Measure C → List Figures → C
total m fs = foldr (λ f c. m.extend c f) m.start fs

-- The order is total, and two costs neither of which is less are the same (the first three). A link keeps the order of costs in range, and
-- makes each strictly dearer. The cost of up to 1,024 links is in range.
pub record Laws {C : Type 0} (m : Measure C) : Type 0 where
  pub irreflexive : (p : C) → m.less p p ≡ false
  pub transitive : (p q r : C) → m.less p q ≡ true → m.less q r ≡ true → m.less p r ≡ true
  pub antisymmetric : (p q : C) → AtMost m p q → AtMost m q p → p ≡ q
  pub monotone : (p q : C) (f : Figures) → Within m p → Within m q → Limits f → AtMost m p q → AtMost m (m.extend p f) (m.extend q f)
  pub strict : (p : C) (f : Figures) → Within m p → Limits f → m.less p (m.extend p f) ≡ true
  pub range : (fs : List Figures) → AllByRecursion Limits fs → length fs ≤ 1024 → Within m (total m fs)
