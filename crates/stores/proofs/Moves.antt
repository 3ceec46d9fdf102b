-- Rows that move up and down. Assumes nothing.
use Rattle.std.proofs.Common.{◌≡◌, ℕ, suc, ◌+◌, ◌-◌, ◌<◌, ◌≤◌, List, [], ◌∷◌, ◌++◌, length, take, drop, set, sym, ap, ◌∙◌, arith}
use Rattle.std.specs.List.{insert, remove, copy_within}
use Rattle.std.proofs.lemmas.List.Edits.{length-insert, length-remove}
use Rattle.std.proofs.Math.Seq.{take-set-lt}
use Rattle.std.proofs.lemmas.List.{append_assoc, length-take-le, length-append, length-drop, take-append-drop, take-take, take_more_set, drop-take, take_at, set-append_left, length-set}
use Rattle.network.specs.declared.types.Link.{Link}
use Rattle.stores.specs.Ranks.{memory_with}

-- the memory once a book stands in front of it
pub front_of : (rows rows' book' : List Link) (used' : ℕ) → length book' ≡ used' → used' ≤ length rows → rows' ≡ memory_with book' rows →
    record { book : take used' rows' ≡ book'; memory : rows' ≡ memory_with (take used' rows') rows; len : length rows' ≡ length rows }
front_of rows rows' book' used' n h e =
    let is = ap (take used') e ∙ take_at book' (drop (length book') rows) used' n in
    let m = length-drop (length book') rows in
    record { book = is; memory = e ∙ ap (λ b. memory_with b rows) (sym is); len = ap length e ∙ length-append book' (drop (length book') rows) ∙ omega arith }

module _ (xs : List Link) (used row : ℕ) where
  abbrev book : List Link
  book = take used xs

  -- the rows of the book from i on
  behind : (i : ℕ) → i ≤ used → take (used - i) (drop i xs) ≡ drop i book
  behind i h =
      let all : i + (used - i) ≡ used = omega arith in
      sym (drop-take i (used - i) xs) ∙ ap (λ n. drop i (take n xs)) all

  -- they move up by one, and a link is written below them
  pub inserted : (v : Link) → row ≤ used → used < length xs → set (copy_within xs row used (row + 1)) row v ≡ memory_with (insert book row v) xs
  inserted v h l =
      let n = length-take-le used xs (omega arith) in
      let last : row + 1 + (used - row) ≡ length (insert book row v) = omega (arith, length-insert book row v (omega arith)) in
      let rest = drop (length (insert book row v)) xs in
      ap (λ k. set ((take (row + 1) xs ++ take (used - row) (drop row xs)) ++ drop k xs) row v) last ∙
      ap (λ ys. set ((take (row + 1) xs ++ ys) ++ rest) row v) (behind row h) ∙
      ap (λ ys. set ys row v) (append_assoc (take (row + 1) xs) (drop row book) rest) ∙
      set-append_left (take (row + 1) xs) (drop row book ++ rest) row v (omega (arith, length-take-le (row + 1) xs)) ∙
      ap (λ ys. ys ++ (drop row book ++ rest)) (sym (take-set-lt (row + 1) xs row v (omega arith)) ∙ take_more_set xs row v (omega arith) ∙ ap (λ ys. ys ++ v ∷ []) (sym (take-take row used xs h))) ∙
      simp append_assoc

  -- they move down by one, over the row before them
  pub removed : row < used → used ≤ length xs → copy_within xs (row + 1) used row ≡ memory_with (remove book row) xs
  removed h l =
      let n = length-take-le used xs l in
      let last : row + (used - (row + 1)) ≡ length (remove book row) = omega (arith, length-remove book row (omega arith)) in
      let next : row + 1 ≡ suc row = omega arith in
      ap (λ k. (take row xs ++ take (used - (row + 1)) (drop (row + 1) xs)) ++ drop k xs) last ∙
      ap (λ ys. (take row xs ++ ys) ++ drop (length (remove book row)) xs) (behind (row + 1) (omega arith) ∙ ap (λ k. drop k book) next) ∙
      ap (λ ys. (ys ++ drop (suc row) book) ++ drop (length (remove book row)) xs) (sym (take-take row used xs (omega arith)))

-- a row of the book that is written
pub set_front : (rows : List Link) (used i : ℕ) (v : Link) → used ≤ length rows → i < used → set rows i v ≡ memory_with (set (take used rows) i v) rows
set_front rows used i v h l =
    let book = take used rows in
    let n = length-take-le used rows h in
    ap (λ r. set r i v) (sym (take-append-drop used rows)) ∙
    set-append_left book (drop used rows) i v (omega arith) ∙
    ap (λ k. set book i v ++ drop k rows) (sym (length-set book i v ∙ n))
