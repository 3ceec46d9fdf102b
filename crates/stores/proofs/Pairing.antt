-- The book of a row store, cut at the row of a pair. Assumes nothing.
use Rattle.std.specs.Prelude.{slice_get}
use Rattle.std.proofs.Common.{◌≡◌, ℕ, min, max, length, Result, sym, subst}
use Rattle.std.specs.Option.{is_some, option_and_then}
use Rattle.std.specs.Result.{is_ok, result_ok}
use Rattle.std.specs.List.Sorted.{IsSearchInRange, IsBinarySearchResult}
use Rattle.std.proofs.lemmas.List.{length-take-le}
use Rattle.network.specs.Books.{link_of}
use Rattle.stores.specs.declared.rows.memory.RowStore.{RowStore}
use Rattle.stores.specs.Ranks.{row_of}
use Rattle.stores.specs.Rows.{row_roster, row_book}
use Rattle.stores.specs.RanksLemmas.{book_in_order}
use Rattle.stores.proofs.Ranks.{Cut, cut, rank, row_searched, find_at, found_variant}

module _ (s : RowStore) where
  pub book_length : length (row_book s) ≡ s.used
  book_length = length-take-le s.used s.rows.now s.room

  module _ (a b : ℕ) (r : Result ℕ ℕ) where
    -- the row of the pair
    pub pair_cut : r ≡ row_of (row_book s) (min a b) (max a b) → Cut (min a b) (max a b) (row_book s) r
    pair_cut e = subst (Cut (min a b) (max a b) (row_book s)) (sym e) (cut (min a b) (max a b) (row_book s) (book_in_order (row_roster s) (row_book s) s.sorted))

    -- what the library's search for the pair says of it
    pub pair_row : (low high : ℕ) → low ≡ min a b → high ≡ max a b → IsSearchInRange r (length (row_book s)) → IsBinarySearchResult (rank low high) (row_book s) r →
        record { row : r ≡ row_of (row_book s) (min a b) (max a b); within : IsSearchInRange r s.used; variant : is_some (link_of (row_book s) a b) ≡ is_ok r; held : link_of (row_book s) a b ≡ option_and_then (slice_get (row_book s)) (result_ok r) }
    pair_row low high x y within searched =
        let row : r ≡ row_of (row_book s) (min a b) (max a b) = rw (← x, ← y) (row_searched low high (row_book s) r (book_in_order (row_roster s) (row_book s) s.sorted) within searched) in
        let here = pair_cut row in
        record { row = row; within = subst (IsSearchInRange r) book_length within; variant = found_variant (min a b) (max a b) (row_book s) r here; held = find_at (min a b) (max a b) (row_book s) r here }
