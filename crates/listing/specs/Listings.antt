-- What a link list comes to: the rows of its table, or its first fault. Assumes nothing.
use Rattle.std.specs.Prelude.{◌≡◌, ℕ, ◌<◌, ◌≤◌, false, List, [], length, Ok, Err, vec_items, Result, Vec}
use Rattle.std.specs.declared.alloc.Global.{Global}
use Rattle.network.specs.declared.types.Link.{Link}
use Rattle.legality.specs.Networks.{net_of}
use Rattle.table.specs.declared.types.Entry.{Entry}
use Rattle.table.specs.Memory.{small}
use Rattle.link_list.specs.declared.types.Cause.TheVariants.{TooLong}
use Rattle.link_list.specs.declared.types.Fault.{Fault}
use Rattle.link_list.specs.Loads.{fault, Loads}
use Rattle.listing.specs.declared.types.Row.{Row}
use Rattle.listing.specs.declared.types.Listing.{Listing}
use Rattle.listing.specs.declared.types.Listing.TheVariants.{Table, Faulty}
use Rattle.listing.specs.Rows.{RowsRight, pairs_from}
use Rattle.listing.specs.Surveys.{Surveys}

-- The second pass: a load of the text into an empty book of these ASes, of at most 276 links, answers r and leaves the book. The table
-- memory is large enough, so that it refuses nothing.
pub record EntersAll (ases text : List ℕ) (book : List Link) (r : Result ℕ Fault) : Type 0 where
  pub entries : List (Entry ℕ)
  pub marks : List ℕ
  pub marks_then : List ℕ
  pub enough : small (length ases) entries marks ≡ false
  pub loads : Loads ases 276 entries book marks_then r 0 text [] marks

-- what the second pass comes to, when the first found these ASes
pub data Tables (ases text : List ℕ) (l : Listing) : Type 0 where
  refused : (book : List Link) (f : Fault) → EntersAll ases text book (Err f) → l ≡ Faulty f → Tables ases text l
  listed : (book : List Link) (n : ℕ) (rows : Vec Row Global) → EntersAll ases text book (Ok n) → RowsRight (net_of ases book) (pairs_from ases ases) (vec_items rows) → l ≡ Table rows → Tables ases text l

-- what the whole list comes to
pub data Lists (text : List ℕ) (l : Listing) : Type 0 where
  too_long : 11316 < length text → l ≡ Faulty (fault TooLong 0) → Lists text l
  malformed : (f : Fault) → length text ≤ 11316 → Surveys (Err f) 0 text [] → l ≡ Faulty f → Lists text l
  well_formed : (ases : List ℕ) → length text ≤ 11316 → Surveys (Ok ases) 0 text [] → Tables ases text l → Lists text l
