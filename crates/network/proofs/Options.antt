-- What is there or absent, by a test. Assumes nothing.
use Rattle.std.proofs.Common.{◌≡◌, ℕ, Bool, true, false, cond, is_some, Some, None, Option, refl, arith}
use Rattle.std.proofs.lemmas.Bool.{both_ways}

module _ {X : Type 0} where
  pub some_from : (o : Option X) → is_some o ≡ true → (x : X) × (o ≡ Some x)
  some_from None e = absurd (both_ways false refl e)
  some_from (Some x) e = (x, refl)

  pub none_from : (o : Option X) → is_some o ≡ false → o ≡ None
  none_from None e = refl
  none_from (Some x) e = absurd (both_ways true e refl)

  -- a first answer that is absent
  pub cond_none : (b : Bool) (x : X) (o : Option X) → cond b (Some x) o ≡ None → (b ≡ false) × (o ≡ None)
  cond_none true x o e = let z : ◌≡◌ {A = ℕ} 0 1 = cc in absurd (omega arith)
  cond_none false x o e = (refl, e)
