-- Rows for one pair more. Assumes nothing.
use Rattle.std.proofs.Common.{arith, ◌≡◌, ℕ, ◌+◌, ◌<◌, List, [], ◌∷◌, ◌++◌, length, get_or, take, sym, refl, ap, ◌∙◌, subst, append_assoc}
use Rattle.std.proofs.lemmas.List.{take_more, append-nil}
use Rattle.std.proofs.lemmas.Bool.Decides.{nat_tests}
use Rattle.legality.specs.Networks.{Network}
use Rattle.listing.specs.declared.types.Row.{Row}
use Rattle.listing.specs.Rows.{RowRight, RowsRight, pairs_of, pairs_from}

pub rows_append : (net : Network) (ps qs : List (ℕ × ℕ)) (rs ss : List Row) → RowsRight net ps rs → RowsRight net qs ss → RowsRight net (ps ++ qs) (rs ++ ss)
rows_append net [] qs [] ss a b = b
rows_append net [] qs (r ∷ rs) ss a b = absurd a
rows_append net (p ∷ ps) qs [] ss a b = absurd a
rows_append net (p ∷ ps) qs (r ∷ rs) ss a b = (a.0, rows_append net ps qs rs ss a.1 b)

of_push : (s : ℕ) (xs : List ℕ) (d : ℕ) → pairs_of s (xs ++ d ∷ []) ≡ pairs_of s xs ++ pairs_of s (d ∷ [])
of_push s [] d = refl
of_push s (x ∷ xs) d = let more = of_push s xs d in grind (arith, nat_tests)

from_push : (ss ases : List ℕ) (s : ℕ) → pairs_from (ss ++ s ∷ []) ases ≡ pairs_from ss ases ++ pairs_of s ases
from_push [] ases s = append-nil (pairs_of s ases)
from_push (x ∷ ss) ases s = ap (λ ps. pairs_of x ases ++ ps) (from_push ss ases s) ∙ sym (append_assoc (pairs_of x ases) (pairs_from ss ases) (pairs_of s ases))

module _ (net : Network) (s : ℕ) (ases : List ℕ) (i : ℕ) (h : i < length ases) (rows : List Row) (right : RowsRight net (pairs_of s (take i ases)) rows) where
  more : pairs_of s (take (i + 1) ases) ≡ pairs_of s (take i ases) ++ pairs_of s (get_or ases i 0 ∷ [])
  more = ap (pairs_of s) (take_more ases i 0 h) ∙ of_push s (take i ases) (get_or ases i 0)

  -- a row for the next AS ..
  pub row_more : (row : Row) → (get_or ases i 0 ≡ s → ⊥) → RowRight net s (get_or ases i 0) row → RowsRight net (pairs_of s (take (i + 1) ases)) (rows ++ row ∷ [])
  row_more row n r =
      let one : pairs_of s (get_or ases i 0 ∷ []) ≡ (s, get_or ases i 0) ∷ [] = grind (arith, nat_tests) in
      subst (λ ps. RowsRight net ps (rows ++ row ∷ [])) (sym (more ∙ ap (λ qs. pairs_of s (take i ases) ++ qs) one)) (rows_append net (pairs_of s (take i ases)) ((s, get_or ases i 0) ∷ []) rows (row ∷ []) right (r, tt))

  -- .. or none, where it is the source
  pub row_same : get_or ases i 0 ≡ s → RowsRight net (pairs_of s (take (i + 1) ases)) rows
  row_same e =
      let none : pairs_of s (get_or ases i 0 ∷ []) ≡ [] = grind (arith, nat_tests) in
      subst (λ ps. RowsRight net ps rows) (sym (more ∙ (ap (λ qs. pairs_of s (take i ases) ++ qs) none ∙ append-nil (pairs_of s (take i ases))))) right

-- the rows of the next source
pub rows_more : (net : Network) (ases : List ℕ) (i : ℕ) → i < length ases → (rows new : List Row) → RowsRight net (pairs_from (take i ases) ases) rows → RowsRight net (pairs_of (get_or ases i 0) ases) new → RowsRight net (pairs_from (take (i + 1) ases) ases) (rows ++ new)
rows_more net ases i h rows new a b =
    subst (λ ps. RowsRight net ps (rows ++ new)) (sym (ap (λ xs. pairs_from xs ases) (take_more ases i 0 h) ∙ from_push (take i ases) ases (get_or ases i 0))) (rows_append net (pairs_from (take i ases) ases) (pairs_of (get_or ases i 0) ases) rows new a b)
