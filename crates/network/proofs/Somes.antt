-- Options: what a present value says, and that none is not some. Assumes nothing.
use Rattle.std.proofs.Common.{◌≡◌, ℕ, Some, None, Option, sym, ap, ◌∙◌, arith}
use Rattle.std.proofs.lemmas.Option.{same_Some}

pub none_some : {X : Type 0} {x : X} {o : Option X} → o ≡ None → o ≡ Some x → ⊥
none_some p q = let z : ◌≡◌ {A = ℕ} 0 1 = cc in omega arith

pub same_pair : {A B : Type 0} {o : Option (A × B)} {a a' : A} {b b' : B} → o ≡ Some (a, b) → o ≡ Some (a', b') → (a ≡ a') × (b ≡ b')
same_pair {A} {B} {o} {a} {a'} {b} {b'} p q = let same : (a, b) ≡ (a', b') = same_Some _ _ (sym p ∙ q) in (ap (λ x. x.0) same, ap (λ x. x.1) same)
