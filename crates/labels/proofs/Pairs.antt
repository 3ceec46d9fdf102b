-- Pairs of an AS and a class: equal or not. Assumes nothing.
use Rattle.std.proofs.Common.{◌≡◌, ℕ, ◌⊎◌, sym, refl, subst, inl, inr, arith}
use native.Mathlib.Decide.{ℕ_discrete}
use Rattle.legality.specs.declared.types.Class.{Class}
use Rattle.legality.specs.declared.types.Class.TheVariants.{Home, Outside}

home≢outside : Home ≡ Outside → ⊥
home≢outside p = let z : ◌≡◌ {A = ℕ} 0 1 = cc in omega arith

pub class? : (x y : Class) → (x ≡ y) ⊎ (x ≡ y → ⊥)
class? Home Home = inl refl
class? Home Outside = inr home≢outside
class? Outside Home = inr (λ p. home≢outside (sym p))
class? Outside Outside = inl refl

pub pair? : (a : ℕ) (e : Class) (x : ℕ) (y : Class) → ((x ≡ a) × (y ≡ e)) ⊎ ((x ≡ a) × (y ≡ e) → ⊥)
pair? a e x y = join (ℕ_discrete x a) (class? y e)
  where
    join : Dec (x ≡ a) → (y ≡ e) ⊎ (y ≡ e → ⊥) → ((x ≡ a) × (y ≡ e)) ⊎ ((x ≡ a) × (y ≡ e) → ⊥)
    join (yes p) (inl r) = inl (p, r)
    join (yes p) (inr n) = inr (λ h. n h.1)
    join (no n) r = inr (λ h. n h.0)

-- what holds at one pair and at each other holds at all
pub everywhere : (P : ℕ → Class → Type 0) (a : ℕ) (e : Class) → P a e → ((x : ℕ) (y : Class) → ((x ≡ a) × (y ≡ e) → ⊥) → P x y) → (x : ℕ) (y : Class) → P x y
everywhere P a e here there x y = go (pair? a e x y)
  where
    go : ((x ≡ a) × (y ≡ e)) ⊎ ((x ≡ a) × (y ≡ e) → ⊥) → P x y
    go (inl h) = subst (λ v. P v y) (sym h.0) (subst (P a) (sym h.1) here)
    go (inr n) = there x y n
