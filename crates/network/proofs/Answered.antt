-- What an answer says of the causes of refusal. Assumes nothing.
use Rattle.std.proofs.Common.{◌≡◌, Some, None, Ok, Err, Option, refl}
use Rattle.network.specs.Edits.{answered}

pub cause_of : {R : Type 0} (o : Option R) (x : R) → Err x ≡ answered o → o ≡ Some x
cause_of None x e = cc
cause_of (Some y) x e = cc

pub no_cause_of : {R : Type 0} (o : Option R) → Ok tt ≡ answered o → o ≡ None
no_cause_of None e = refl
no_cause_of (Some y) e = cc
