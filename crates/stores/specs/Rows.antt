-- The roster, the book and the limit of a row store. Assumes nothing.
use Rattle.std.specs.Prelude.{◌≡◌, ℕ, min, List, length, take}
use Rattle.network.specs.declared.types.Link.{Link}
use Rattle.stores.specs.declared.rows.memory.RowStore.{RowStore}
use Rattle.stores.specs.Ranks.{memory_with}

abbrev pub row_roster : RowStore → List ℕ
row_roster s = s.roster.now

abbrev pub row_book : RowStore → List Link
row_book s = take s.used s.rows.now

-- as many links as there are rows, and at most 16384
abbrev pub row_limit : RowStore → ℕ
row_limit s = min (length s.rows.now) 16384

-- The memory lent is the same after an edit, which a prime marks: the book in front, and behind it what was there.
pub record KeptRows (s s' : RowStore) : Type 0 where
  pub memory : s'.rows.now ≡ memory_with (row_book s') s.rows.now
  pub same : s'.rows.ghost_name ≡ s.rows.ghost_name
