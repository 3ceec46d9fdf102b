-- Pairs of a place and a class. Assumes nothing.
use Rattle.std.proofs.Common.{◌≡◌, ℕ, zero, suc, ◌*◌, ◌<◌, ◌≤◌, refl, arith}
use Rattle.legality.specs.declared.types.Class.{Class}
use Rattle.legality.specs.declared.types.Class.TheVariants.{Home, Outside}
use Rattle.table.specs.Columns.{number, pair}

pub number_low : (e : Class) → number e ≤ 1
number_low Home = omega arith
number_low Outside = omega arith

number_inj : (e f : Class) → number e ≡ number f → e ≡ f
number_inj Home Home p = refl
number_inj Home Outside p = absurd (omega arith)
number_inj Outside Home p = absurd (omega arith)
number_inj Outside Outside p = refl

pub pair_inj : (i j : ℕ) (e f : Class) → pair i e ≡ pair j f → (i ≡ j) × (e ≡ f)
pair_inj i j e f p =
    let le = number_low e in
    let lf = number_low f in
    (omega arith, number_inj e f (omega arith))

pub pair_below : (i n : ℕ) (e : Class) → i < n → pair i e < 2 * n
pair_below i n e h = let le = number_low e in omega arith

-- every number is that of a pair
pub halves : (j : ℕ) → (i : ℕ) × (e : Class) × (j ≡ pair i e)
halves zero = (0, Home, refl)
halves (suc j) = let h = halves j in next h.0 h.1 h.2
  where
    next : (i : ℕ) (e : Class) → j ≡ pair i e → (k : ℕ) × (f : Class) × (suc j ≡ pair k f)
    next i Home p = (i, Outside, omega arith)
    next i Outside p = (suc i, Home, omega arith)
