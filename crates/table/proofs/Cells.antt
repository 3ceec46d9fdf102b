-- The places of entries are within a memory that is large enough. Assumes nothing.
use Rattle.std.proofs.Common.{◌≡◌, ℕ, suc, ◌+◌, ◌*◌, ◌<◌, ◌≤◌, false, ltb, List, length, ap, ◌∙◌, mul-le-mul_right, mul_assoc, suc-mul, mul_comm, arith}
use Rattle.std.proofs.lemmas.Bool.{or_parts, ltb-false}
use Rattle.legality.specs.declared.types.Class.{Class}
use Rattle.table.specs.declared.types.Entry.{Entry}
use Rattle.table.specs.Columns.{pair}
use Rattle.table.specs.Memory.{small, index}
use Rattle.table.proofs.Pairs.{number_low}

-- a cell of n rows of n
pub cell : (n to from : ℕ) → to < n → from < n → to * n + from < n * n
cell n to from h k = let le : suc to * n ≤ n * n = mul-le-mul_right n h in omega (arith, suc-mul to n, le)

pub square : (n : ℕ) → n ≤ 512 → n * n ≤ 262144
square n h = let a : n * n ≤ 512 * n = mul-le-mul_right n h in omega (arith, a)

pub index_below : (n to from : ℕ) (e : Class) → to < n → from < n → index n to from e < 2 * n * n
index_below n to from e h k = let le = number_low e in omega (arith, cell n to from h k, mul_assoc 2 n n)

-- the two ways to number an entry
pub index_is : (n d i : ℕ) (e : Class) → index n d i e ≡ 2 * n * d + pair i e
index_is n d i e = let z : 2 * n * d ≡ 2 * (d * n) = mul_assoc 2 n d ∙ ap (λ y. 2 * y) (mul_comm n d) in omega (arith, z)

pub not_small : {C : Type 0} (n : ℕ) (entries : List (Entry C)) (marks : List ℕ) → small n entries marks ≡ false → (2 * n * n ≤ length entries) × (n ≤ length marks)
not_small n entries marks h =
    let parts = or_parts (ltb (length entries) (2 * n * n)) (ltb (length marks) n) h in
    (ltb-false (length entries) (2 * n * n) parts.0, ltb-false (length marks) n parts.1)
