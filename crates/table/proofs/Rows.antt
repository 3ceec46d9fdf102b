-- What an entry says, where it is known whether it is blank. Assumes nothing.
use Rattle.std.proofs.Common.{◌≡◌, ℕ, ◌<◌, eqb, ◌≢◌, ◌⊎◌, List, get_or, Some, None, inl, inr}
use Rattle.std.proofs.lemmas.Bool.{cases_eq, eq-eqb, ne_eqb, cond-true, cond-false}
use Rattle.network.proofs.Somes.{none_some, same_pair}
use Rattle.table.specs.declared.types.Entry.{Entry}
use Rattle.table.specs.Columns.{read, Row}

module _ {C : Type 0} (roster : List ℕ) (x : Entry C) where
  pub read_blank : x.next ≡ 65535 → read roster x ≡ None
  read_blank e = cond-true (eqb x.next 65535) None (Some (get_or roster x.next 0, x.cost)) (eq-eqb x.next 65535 e)

  pub read_filled : x.next ≢ 65535 → read roster x ≡ Some (get_or roster x.next 0, x.cost)
  read_filled n = cond-false (eqb x.next 65535) None (Some (get_or roster x.next 0, x.cost)) (ne_eqb x.next 65535 n)

  pub read_some : (b : ℕ) (c : C) → read roster x ≡ Some (b, c) → (x.next ≢ 65535) × (get_or roster x.next 0 ≡ b) × (x.cost ≡ c)
  read_some b c h = go (cases_eq x.next 65535)
    where
      go : (x.next ≡ 65535) ⊎ (x.next ≢ 65535) → (x.next ≢ 65535) × (get_or roster x.next 0 ≡ b) × (x.cost ≡ c)
      go (inl e) = absurd (none_some (read_blank e) h)
      go (inr n) = let z = same_pair (read_filled n) h in (n, z.0, z.1)

pub row_below : {C : Type 0} (start : C) (n : ℕ) (x : Entry C) → Row start n x → x.next ≢ 65535 → x.next < n
row_below start n x (inl b) h = absurd (h b.0)
row_below start n x (inr l) h = l
