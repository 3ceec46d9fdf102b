-- What an edit makes of a row store. Assumes nothing.
use Rattle.std.proofs.Common.{◌≡◌, ℕ, ◌+◌, ◌<◌, ◌≤◌, min, max, Bool, true, cond, not, ◌&&◌, eqb, ◌≢◌, List, [], length, get_or, take, set, is_some, Some, None, Ok, Err, sym, refl, ap, ◌∙◌, subst, ⊎_elim, arith}
use Rattle.std.specs.List.{insert, remove}
use Rattle.std.proofs.lemmas.List.{get_or-take, length-set}
use Rattle.std.proofs.lemmas.Bool.{cases_lt, ne_eqb, cond-false}
use Rattle.std.proofs.lemmas.Bool.Decides.{nat_tests}
use Rattle.network.specs.declared.types.Link.{Link}
use Rattle.network.specs.declared.types.Figures.{Figures}
use Rattle.network.specs.declared.types.Relation.{Relation}
use Rattle.network.specs.declared.types.EditRefusal.{EditRefusal}
use Rattle.network.specs.declared.types.EditRefusal.TheVariants.{AlreadyLinked, NotLinked, Full}
use Rattle.network.specs.Rosters.{place}
use Rattle.network.specs.Limits.{in_limits}
use Rattle.network.specs.Books.{added, recosted, without, entered, with_figures, relation_of, relation_named}
use Rattle.network.specs.Causes.{first_cause, pair_causes, figures_causes, link_causes, recost_causes, unlink_causes}
use Rattle.network.specs.Edits.{Edits, answered, unless}
use Rattle.network.proofs.Causes.{pair_known, figures_known}
use Rattle.stores.specs.declared.rows.memory.RowStore.{RowStore}
use Rattle.stores.specs.Ranks.{is_proper, is_book, row_of, memory_with}
use Rattle.stores.specs.Refusals.{judged, places, relation_causes}
use Rattle.stores.specs.Rows.{row_roster, row_book, row_limit}
use Rattle.stores.proofs.Moves.{front_of, set_front}
use Rattle.stores.proofs.Pairing.{book_length, pair_cut}
use Rattle.stores.proofs.Ranks.{Standing, Absent, found_variant, book_absent, added_absent, book_removed, without_standing, book_recosted, recosted_standing}
use Rattle.stores.proofs.Refusals.{judged_ok, named_judged, placed, link_rest, recost_rest, unlink_rest}

-- an edit that is accepted: the book afterwards, in the first rows
pub record Done (causes : List (EditRefusal × Bool)) (next : List Link) (s : RowStore) (rows' : List Link) (used' : ℕ) : Type 0 where
  pub edit : Edits causes next (row_roster s) (row_roster s) (row_book s) (take used' rows') (row_limit s) (min (length rows') 16384) (Ok tt)
  pub sorted : is_book (row_roster s) (take used' rows') ≡ true

done : (causes : List (EditRefusal × Bool)) (next : List Link) (s : RowStore) (rows' : List Link) (used' : ℕ) → first_cause causes ≡ None → take used' rows' ≡ next → length rows' ≡ length s.rows.now → is_book (row_roster s) next ≡ true → Done causes next s rows' used'
done causes next s rows' used' none is long book =
    record {
      edit = record {
        answer = sym (ap answered none);
        book_then = is ∙ sym (ap (λ o. unless o (row_book s) next) none);
        roster_then = refl;
        limit_then = ap (λ n. min n 16384) long;
      };
      sorted = ap (is_book (row_roster s)) is ∙ book;
    }

-- a link of two ASes of the roster is proper
proper_entered : (roster : List ℕ) (a b : ℕ) (r : Relation) (f : Figures) → is_some (place roster a) ≡ true → is_some (place roster b) ≡ true → a ≢ b → (in_limits f.delay && in_limits f.width) ≡ true → is_proper roster (entered a b r f) ≡ true
proper_entered roster a b r f x y apart fine =
    ⊎_elim
    (λ (h : a < b). let low : min a b ≡ a = omega arith in let high : max a b ≡ b = omega arith in grind (arith, nat_tests))
    (λ (h : b ≤ a). let low : min a b ≡ b = omega arith in let high : max a b ≡ a = omega arith in grind (arith, nat_tests))
    (cases_lt a b)

module _ (s : RowStore) (a b : ℕ) (p : ℕ × ℕ) (pair : Ok p ≡ judged (first_cause (pair_causes (row_roster s) a b [])) (places (row_roster s) a b)) where
  abbrev roster : List ℕ
  roster = row_roster s

  abbrev book : List Link
  book = row_book s

  abbrev low : ℕ
  low = min a b

  abbrev high : ℕ
  high = max a b

  pair_pass : first_cause (pair_causes roster a b []) ≡ None
  pair_pass = (placed roster a b p pair).0

  -- the link of the pair stands at a row
  module _ (row : ℕ) (found : Ok row ≡ row_of book low high) where
    there : Standing low high book row
    there = pair_cut s a b (Ok row) found

    pub unlinked : (rows' : List Link) (used' : ℕ) → take used' rows' ≡ remove book row → length rows' ≡ length s.rows.now → Done (unlink_causes roster book a b) (without book low high) s rows' used'
    unlinked rows' used' is long =
        done (unlink_causes roster book a b) (without book low high) s rows' used'
        (unlink_rest roster book a b pair_pass ∙ ap (λ t. cond (not t) (Some NotLinked) None) (found_variant low high book (Ok row) there))
        (is ∙ without_standing low high book row there) long
        (ap (is_book roster) (sym (without_standing low high book row there)) ∙ book_removed roster book row s.sorted)

  module _ (f : Figures) (u : Unit {0}) (tested : Ok u ≡ judged (first_cause (figures_causes f [])) tt) where
    figures_pass : first_cause (figures_causes f []) ≡ None
    figures_pass = (judged_ok (first_cause (figures_causes f [])) u tt tested).0

    pub recosted_at : (row : ℕ) (d : Link) → Ok row ≡ row_of book low high →
        let rows' = set s.rows.now row (with_figures (get_or s.rows.now row d) f) in
        record { made : Done (recost_causes roster book a b f) (recosted book low high f) s rows' s.used; memory : rows' ≡ memory_with (take s.used rows') s.rows.now; room : s.used ≤ length rows' }
    recosted_at row d found =
        let rows = s.rows.now in
        let rows' = set rows row (with_figures (get_or rows row d) f) in
        let here = there row found in
        let w : row < s.used = let n = book_length s in omega (arith, here.within) in
        let new = with_figures (get_or book row d) f in
        let read : get_or rows row d ≡ get_or book row d = sym (get_or-take s.used rows row d w) in
        let front = front_of rows rows' (set book row new) s.used (length-set book row new ∙ book_length s) s.room (ap (λ l. set rows row (with_figures l f)) read ∙ set_front rows s.used row new s.room w) in
        record {
          made = done (recost_causes roster book a b f) (recosted book low high f) s rows' s.used
              (recost_rest roster book a b pair_pass f figures_pass ∙ ap (λ t. cond (not t) (Some NotLinked) None) (found_variant low high book (Ok row) here))
              (front.book ∙ recosted_standing low high book row here d f) front.len
              (book_recosted roster low high f (figures_known f figures_pass) book s.sorted);
          memory = front.memory;
          room = subst (λ n. s.used ≤ n) (sym front.len) s.room;
        }

    -- it does not, and would stand there
    pub linked : (number : ℕ) (relation : Relation) → Ok relation ≡ relation_named number → (row : ℕ) → Err row ≡ row_of book low high → s.used ≢ row_limit s →
        (rows' : List Link) (new : Link) → new ≡ entered a b relation f → take (s.used + 1) rows' ≡ insert book row new → length rows' ≡ length s.rows.now →
        Done (link_causes roster book (row_limit s) a b number f) (added book (entered a b (relation_of number) f)) s rows' (s.used + 1)
    linked number relation named row found free rows' new e is long =
        let absent : Absent low high book row = pair_cut s a b (Err row) found in
        let known = placed roster a b p pair in
        let relation_is = judged_ok (first_cause (relation_causes number)) relation (relation_of number) (named ∙ named_judged number) in
        let entry = entered a b relation f in
        let next : insert book row new ≡ added book (entered a b (relation_of number) f) = ap (insert book row) e ∙ added_absent book row entry absent ∙ ap (λ r. added book (entered a b r f)) relation_is.1 in
        done (link_causes roster book (row_limit s) a b number f) (added book (entered a b (relation_of number) f)) s rows' (s.used + 1)
        (link_rest roster book a b pair_pass f figures_pass (row_limit s) number relation_is.0 ∙ ap (λ t. cond t (Some AlreadyLinked) (cond (eqb (length book) (row_limit s)) (Some Full) None)) (found_variant low high book (Err row) absent) ∙ cond-false (eqb (length book) (row_limit s)) (Some Full) None (ne_eqb (length book) (row_limit s) (λ full. free (sym (book_length s) ∙ full))))
        (is ∙ next) long
        (ap (is_book roster) (sym next ∙ ap (insert book row) e) ∙ book_absent book row entry absent roster s.sorted (proper_entered roster a b relation f (ap is_some known.1) (ap is_some known.2) (pair_known roster a b known.0).apart (figures_known f figures_pass)))
