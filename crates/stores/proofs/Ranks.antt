-- Rows in the order of the book, and where the link of a pair stands among them. Assumes nothing.
use Rattle.std.specs.Prelude.{slice_get}
use Rattle.std.proofs.lemmas.Option.{slice_get-get_or}
use Rattle.std.proofs.Common.{◌≡◌, ℕ, zero, suc, ◌<◌, ◌≤◌, Bool, true, false, cond, ◌&&◌, List, [], ◌∷◌, ◌++◌, length, get_or, take, drop, set, is_some, None, Ok, Err, Result, sym, refl, ap, ◌∙◌, subst, arith}
use Rattle.std.specs.List.{insert, remove, AllByRecursion, HoldsAt}
use Rattle.std.specs.List.Sorted.{IsNonDecreasingBy, IsSearchInRange, IsBinarySearchResult, IsPartitionPoint}
use Rattle.std.specs.Option.{option_and_then}
use Rattle.std.specs.Result.{is_ok, result_ok}
use Rattle.std.specs.Ordering.{ordering_then, ordering_index, nat_cmp}
use Rattle.std.specs.declared.cmp.Ordering.{Ordering}
use Rattle.std.specs.declared.cmp.Ordering.TheVariants.{Less, Equal, Greater}
use Rattle.std.proofs.ByRecursion.{All-weaker, All-append, All-take, All-drop, All-get_or}
use Rattle.std.proofs.lemmas.Bool.{and_from}
use Rattle.std.proofs.lemmas.List.{set-get_or, set_split, take-append-drop}
use Rattle.std.proofs.lemmas.Bool.Decides.{nat_tests}
use Rattle.network.specs.declared.types.Link.{Link}
use Rattle.network.specs.declared.types.Figures.{Figures}
use Rattle.network.specs.Limits.{in_limits}
use Rattle.network.specs.Books.{joins, find, before, added, recosted, without, with_figures}
use Rattle.network.specs.Sound.{InOrder}
use Rattle.network.proofs.Books.{Earlier, earlier_before, earlier_not_before, Apart, apart_earlier, apart_later, added_between, find_none, find_here, recosted_here, without_here}
use Rattle.stores.specs.Ranks.{is_proper, before_all, is_book, one_on, row_of}
use Rattle.stores.specs.RanksLemmas.{Parts, parts, befores}

module _ (roster : List ℕ) where
  from_parts : (l : Link) (ls : List Link) → Parts roster l ls → is_book roster (l ∷ ls) ≡ true
  from_parts l ls p = and_from (is_proper roster l) (before_all l ls && is_book roster ls) p.fine (and_from (before_all l ls) (is_book roster ls) p.first p.rest)

  -- a book with one link more ..
  before_inserted : (l : Link) (ls : List Link) (i : ℕ) (new : Link) → before_all l ls ≡ true → before l new ≡ true → before_all l (insert ls i new) ≡ true
  before_inserted l ls i new e h =
      let all = (befores l ls).0 e in
      let P : Link → Type 0 = λ k. before l k ≡ true in
      (befores l (insert ls i new)).1 (All-append P (take i ls) (new ∷ drop i ls) (All-take P i ls all) (h, All-drop P i ls all))

  pub book_inserted : (book : List Link) (i : ℕ) (new : Link) → is_book roster book ≡ true → is_proper roster new ≡ true → AllByRecursion (λ l. before l new ≡ true) (take i book) → AllByRecursion (λ l. before new l ≡ true) (drop i book) →
      is_book roster (insert book i new) ≡ true
  book_inserted book zero new e fine fore rest = from_parts new book (record { fine = fine; first = (befores new book).1 rest; rest = e })
  book_inserted [] (suc i) new e fine fore rest = from_parts new [] (record { fine = fine; first = refl; rest = refl })
  book_inserted (l ∷ ls) (suc i) new e fine fore rest =
      let p = parts roster l ls e in
      from_parts l (insert ls i new) (record { fine = p.fine; first = before_inserted l ls i new p.first fore.0; rest = book_inserted ls i new p.rest fine fore.1 rest })

  -- .. with one link less ..
  before_removed : (l : Link) (ls : List Link) (i : ℕ) → before_all l ls ≡ true → before_all l (remove ls i) ≡ true
  before_removed l ls i e =
      let all = (befores l ls).0 e in
      let P : Link → Type 0 = λ k. before l k ≡ true in
      (befores l (remove ls i)).1 (All-append P (take i ls) (drop (suc i) ls) (All-take P i ls all) (All-drop P (suc i) ls all))

  pub book_removed : (book : List Link) (i : ℕ) → is_book roster book ≡ true → is_book roster (remove book i) ≡ true
  book_removed [] zero e = refl
  book_removed [] (suc i) e = refl
  book_removed (l ∷ ls) zero e = (parts roster l ls e).rest
  book_removed (l ∷ ls) (suc i) e =
      let p = parts roster l ls e in
      from_parts l (remove ls i) (record { fine = p.fine; first = before_removed l ls i p.first; rest = book_removed ls i p.rest })

-- .. and with other figures
module _ (roster : List ℕ) (low high : ℕ) (f : Figures) (limits : (in_limits f.delay && in_limits f.width) ≡ true) where
  proper_with : (t : Bool) (l : Link) → is_proper roster l ≡ true → is_proper roster (cond t (with_figures l f) l) ≡ true
  proper_with false l e = e
  proper_with true l e = grind (arith, nat_tests)

  with_before : (t : Bool) (l : Link) (ls : List Link) → before_all (cond t (with_figures l f) l) ls ≡ before_all l ls
  with_before false l ls = refl
  with_before true l [] = refl
  with_before true l (k ∷ ks) = ap (λ x. before l k && x) (with_before true l ks)

  before_recosted : (l : Link) (ls : List Link) → before_all l (recosted ls low high f) ≡ before_all l ls
  before_recosted l [] = refl
  before_recosted l (k ∷ ks) = ap (λ x. x && before_all l (recosted ks low high f)) (same (joins low high k)) ∙ ap (λ x. before l k && x) (before_recosted l ks)
    where
      same : (t : Bool) → before l (cond t (with_figures k f) k) ≡ before l k
      same true = refl
      same false = refl

  pub book_recosted : (book : List Link) → is_book roster book ≡ true → is_book roster (recosted book low high f) ≡ true
  book_recosted [] e = refl
  book_recosted (l ∷ ls) e =
      let p = parts roster l ls e in
      let t = joins low high l in
      from_parts roster (cond t (with_figures l f) l) (recosted ls low high f) (record { fine = proper_with t l p.fine; first = with_before t l (recosted ls low high f) ∙ before_recosted l ls ∙ p.first; rest = book_recosted ls p.rest })

module _ (low high : ℕ) where
  -- how the pair of a link ranks beside this one
  abbrev pub rank : Link → Ordering
  rank l = ordering_then (nat_cmp l.low low) (nat_cmp l.high high)

  row_next : (l : Link) (ls : List Link) → rank l ≡ Less → row_of (l ∷ ls) low high ≡ one_on (row_of ls low high)
  row_next l ls e = grind (arith, nat_tests)

  row_here : (l : Link) (ls : List Link) → rank l ≡ Equal → row_of (l ∷ ls) low high ≡ Ok 0
  row_here l ls e = grind (arith, nat_tests)

  row_past : (l : Link) (ls : List Link) → rank l ≡ Greater → row_of (l ∷ ls) low high ≡ Err 0
  row_past l ls e = grind (arith, nat_tests)

  -- ranks rise along rows in order
  rank_before : (l k : Link) → before l k ≡ true → rank k ≡ Equal → rank l ≡ Less
  rank_before l k b e = grind (arith, nat_tests)

  rank_rises : (l k : Link) → before l k ≡ true → ordering_index (rank l) ≤ ordering_index (rank k)
  rank_rises l k b = grind (arith, nat_tests)

  ranks_rise : (xs : List Link) → InOrder xs → IsNonDecreasingBy (λ l. ordering_index (rank l)) xs
  ranks_rise [] o i j d h k = absurd (omega arith)
  ranks_rise (l ∷ ls) o zero zero d h k = omega arith
  ranks_rise (l ∷ ls) o zero (suc j) d h k = rank_rises l (get_or ls j d) (All-get_or (λ m. before l m ≡ true) ls j d (omega arith) o.0)
  ranks_rise (l ∷ ls) o (suc i) zero d h k = absurd (omega arith)
  ranks_rise (l ∷ ls) o (suc i) (suc j) d h k = ranks_rise ls o.1 i j d (omega arith) (omega arith)

  row_found : (xs : List Link) (i : ℕ) → InOrder xs → i < length xs → HoldsAt (λ l. rank l ≡ Equal) xs i → row_of xs low high ≡ Ok i
  row_found [] i o h e = absurd (omega arith)
  row_found (l ∷ ls) zero o h e = row_here l ls (e l)
  row_found (l ∷ ls) (suc i) o h e =
      row_next l ls (rank_before l (get_or ls i l) (All-get_or (λ k. before l k ≡ true) ls i l (omega arith) o.0) (e l)) ∙ ap one_on (row_found ls i o.1 (omega arith) e)

  row_between : (xs : List Link) (i : ℕ) → i ≤ length xs → IsPartitionPoint (λ l. rank l ≡ Less) (λ l. rank l ≡ Greater) xs i → row_of xs low high ≡ Err i
  row_between [] zero h p = refl
  row_between [] (suc i) h p = absurd (omega arith)
  row_between (l ∷ ls) zero h p = row_past l ls (p.1 0 l (omega arith) (omega arith))
  row_between (l ∷ ls) (suc i) h p =
      row_next l ls (p.0 0 l (omega arith) (omega arith)) ∙
      ap one_on (row_between ls i (omega arith) ((λ k d a b. p.0 (suc k) d (omega arith) (omega arith)), (λ k d a b. p.1 (suc k) d (omega arith) (omega arith))))

  -- a search by the library ends at the row of the pair
  pub row_searched : (xs : List Link) (r : Result ℕ ℕ) → InOrder xs → IsSearchInRange r (length xs) → IsBinarySearchResult rank xs r → r ≡ row_of xs low high
  row_searched xs (Ok i) o h e = sym (row_found xs i o h e)
  row_searched xs (Err i) o h e = sym (row_between xs i h (e (ranks_rise xs o)))

  -- a link of the pair stands at the row i, and no other
  pub record Standing (book : List Link) (i : ℕ) : Type 0 where
    pub within : i < length book
    pub here : (d : Link) → joins low high (get_or book i d) ≡ true
    pub fore : AllByRecursion (Apart low high) (take i book)
    pub rest : AllByRecursion (Apart low high) (drop (suc i) book)

  -- no link of the pair stands in the book, and one would stand at the row i
  pub record Absent (book : List Link) (i : ℕ) : Type 0 where
    pub within : i ≤ length book
    pub fore : AllByRecursion (λ l. Earlier l.low l.high low high) (take i book)
    pub rest : AllByRecursion (λ l. Earlier low high l.low l.high) (drop i book)

  abbrev pub Cut : List Link → Result ℕ ℕ → Type 0
  Cut book (Ok i) = Standing book i
  Cut book (Err i) = Absent book i

  sooner : (l : Link) → rank l ≡ Less → Earlier l.low l.high low high
  sooner l e = grind (arith, nat_tests)

  here : (l : Link) → rank l ≡ Equal → joins low high l ≡ true
  here l e = grind (arith, nat_tests)

  further : (l : Link) (ls : List Link) (r : Result ℕ ℕ) → Earlier l.low l.high low high → Cut ls r → Cut (l ∷ ls) (one_on r)
  further l ls (Ok i) h c =
      record { within = omega (arith, c.within); here = c.here; fore = (apart_earlier low high l h, c.fore); rest = c.rest }
  further l ls (Err i) h c = record { within = omega (arith, c.within); fore = (h, c.fore); rest = c.rest }

  pub cut : (book : List Link) → InOrder book → Cut book (row_of book low high)
  cut [] o = record { within = omega arith; fore = tt; rest = tt }
  cut (l ∷ ls) o = slice_get (cut ls o.1) (rank l) refl
    where
      slice_get : Cut ls (row_of ls low high) → (r : Ordering) → rank l ≡ r → Cut (l ∷ ls) (row_of (l ∷ ls) low high)
      slice_get more Less e = subst (Cut (l ∷ ls)) (sym (row_next l ls e)) (further l ls (row_of ls low high) (sooner l e) more)
      slice_get more Equal e =
          let apart : (k : Link) → before l k ≡ true → Apart low high k = λ k b. grind (arith, nat_tests) in
          subst (Cut (l ∷ ls)) (sym (row_here l ls e)) (record { within = omega arith; here = λ d. here l e; fore = tt; rest = All-weaker (λ k. before l k ≡ true) (Apart low high) apart ls o.0 })
      slice_get more Greater e =
          let later : Earlier low high l.low l.high = grind (arith, nat_tests) in
          let all : (k : Link) → before l k ≡ true → Earlier low high k.low k.high = λ k b. grind (arith, nat_tests) in
          subst (Cut (l ∷ ls)) (sym (row_past l ls e)) (record { within = omega arith; fore = tt; rest = (later, All-weaker (λ k. before l k ≡ true) (λ k. Earlier low high k.low k.high) all ls o.0) })

  -- a link of a book that has one
  link_in : (book : List Link) (i : ℕ) → i < length book → Link
  link_in [] i h = absurd (omega arith)
  link_in (l ∷ ls) i h = l

  -- the book, cut at the row of its link ..
  module _ (book : List Link) (i : ℕ) (there : Standing book i) where
    split : (d : Link) → book ≡ take i book ++ get_or book i d ∷ drop (suc i) book
    split d = sym (set-get_or book i d) ∙ set_split book i (get_or book i d) there.within

    find_standing : find book low high ≡ slice_get book i
    find_standing =
        let d = link_in book i there.within in
        ap (λ b. find b low high) (split d) ∙ find_here low high (take i book) (drop (suc i) book) (get_or book i d) there.fore (there.here d) ∙ sym (slice_get-get_or book i d there.within)

    pub without_standing : remove book i ≡ without book low high
    without_standing =
        let d = link_in book i there.within in
        sym (ap (λ b. without b low high) (split d) ∙ without_here low high (take i book) (drop (suc i) book) (get_or book i d) there.fore (there.here d))

    pub recosted_standing : (d : Link) (f : Figures) → set book i (with_figures (get_or book i d) f) ≡ recosted book low high f
    recosted_standing d f =
        set_split book i (with_figures (get_or book i d) f) there.within ∙
        sym (ap (λ b. recosted b low high f) (split d) ∙ recosted_here low high f (take i book) (drop (suc i) book) (get_or book i d) there.fore there.rest (there.here d))

  -- .. or where it would stand
  find_absent : (book : List Link) (i : ℕ) → Absent book i → find book low high ≡ None
  find_absent book i there =
      let fore = All-weaker (λ l. Earlier l.low l.high low high) (Apart low high) (apart_earlier low high) (take i book) there.fore in
      let rest = All-weaker (λ l. Earlier low high l.low l.high) (Apart low high) (apart_later low high) (drop i book) there.rest in
      find_none low high book (subst (AllByRecursion (Apart low high)) (take-append-drop i book) (All-append (Apart low high) (take i book) (drop i book) fore rest))

  -- the link of the pair is that at its row
  pub find_at : (book : List Link) (r : Result ℕ ℕ) → Cut book r → find book low high ≡ option_and_then (slice_get book) (result_ok r)
  find_at book (Ok i) there = find_standing book i there
  find_at book (Err i) there = find_absent book i there

  pub found_variant : (book : List Link) (r : Result ℕ ℕ) → Cut book r → is_some (find book low high) ≡ is_ok r
  found_variant book (Ok i) there = ap is_some (find_standing book i there ∙ slice_get-get_or book i (link_in book i there.within) there.within)
  found_variant book (Err i) there = ap is_some (find_absent book i there)

module _ (book : List Link) (i : ℕ) (new : Link) (there : Absent new.low new.high book i) where
  pub added_absent : insert book i new ≡ added book new
  added_absent =
      let fore = All-weaker (λ l. Earlier l.low l.high new.low new.high) (λ l. before l new ≡ true) (λ l. earlier_before l new) (take i book) there.fore in
      let rest = All-weaker (λ l. Earlier new.low new.high l.low l.high) (λ l. before l new ≡ false) (λ l. earlier_not_before l new) (drop i book) there.rest in
      sym (ap (λ b. added b new) (sym (take-append-drop i book)) ∙ added_between (take i book) (drop i book) new fore rest)

  pub book_absent : (roster : List ℕ) → is_book roster book ≡ true → is_proper roster new ≡ true → is_book roster (insert book i new) ≡ true
  book_absent roster e fine =
      book_inserted roster book i new e fine
      (All-weaker (λ l. Earlier l.low l.high new.low new.high) (λ l. before l new ≡ true) (λ l. earlier_before l new) (take i book) there.fore)
      (All-weaker (λ l. Earlier new.low new.high l.low l.high) (λ l. before new l ≡ true) (earlier_before new) (drop i book) there.rest)
