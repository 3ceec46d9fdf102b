-- The rows of a row store are a book. Assumes nothing.
use Rattle.std.proofs.Common.{◌≡◌, ℕ, true, ◌&&◌, ltb, List, [], ◌∷◌, is_some, refl, subst}
use Rattle.std.specs.List.{AllByRecursion}
use Rattle.std.specs.Bool.{Decides}
use Rattle.std.proofs.ByRecursion.{Decides-by_and}
use Rattle.std.proofs.lemmas.Bool.{and_parts, ltb-true}
use Rattle.network.specs.declared.types.Link.{Link}
use Rattle.network.specs.Rosters.{Among, place}
use Rattle.network.specs.Limits.{in_limits}
use Rattle.network.specs.Books.{before}
use Rattle.network.specs.Sound.{Proper, InOrder}
use Rattle.network.proofs.Options.{some_from}
use Rattle.network.proofs.Rising.{stands_among, place_stands}
use Rattle.stores.specs.Ranks.{is_proper, before_all, is_book}
use Rattle.stores.specs.CellsLemmas.{limits_from}

known_among : (roster : List ℕ) (a : ℕ) → is_some (place roster a) ≡ true → Among a roster
known_among roster a e =
    let i = some_from (place roster a) e in
    let there = place_stands roster a i.0 i.1 in
    subst (λ x. Among x roster) there.is (stands_among roster i.0 there.within)

-- what `before_all` says of each link
pub befores : (l : Link) (ls : List Link) → Decides (before_all l ls) (AllByRecursion (λ k. before l k ≡ true) ls)
befores l = Decides-by_and (before l) (λ k. before l k ≡ true) (before_all l) (λ k. ((λ e. e), (λ e. e))) refl (λ _ _. refl)

module _ (roster : List ℕ) where
  proper : (l : Link) → is_proper roster l ≡ true → Proper roster l
  proper l e =
      let fine = in_limits l.figures.delay && in_limits l.figures.width in
      let low = is_some (place roster l.low) in
      let high = is_some (place roster l.high) in
      let a = and_parts (ltb l.low l.high) (low && (high && fine)) e in
      let b = and_parts low (high && fine) a.1 in
      let c = and_parts high fine b.1 in
      record { ordered = ltb-true l.low l.high a.0; low_known = known_among roster l.low b.0; high_known = known_among roster l.high c.0; limits = limits_from l.figures c.1 }

  -- the parts of a book: its first link is proper, stands before the others, and they are a book
  pub record Parts (l : Link) (ls : List Link) : Type 0 where
    pub fine : is_proper roster l ≡ true
    pub first : before_all l ls ≡ true
    pub rest : is_book roster ls ≡ true

  pub parts : (l : Link) (ls : List Link) → is_book roster (l ∷ ls) ≡ true → Parts l ls
  parts l ls e =
      let a = and_parts (is_proper roster l) (before_all l ls && is_book roster ls) e in
      let b = and_parts (before_all l ls) (is_book roster ls) a.1 in
      record { fine = a.0; first = b.0; rest = b.1 }

  pub book_proper : (book : List Link) → is_book roster book ≡ true → AllByRecursion (Proper roster) book
  book_proper [] e = tt
  book_proper (l ∷ ls) e = let p = parts l ls e in (proper l p.fine, book_proper ls p.rest)

  pub book_in_order : (book : List Link) → is_book roster book ≡ true → InOrder book
  book_in_order [] e = tt
  book_in_order (l ∷ ls) e = let p = parts l ls e in ((befores l ls).0 p.first, book_in_order ls p.rest)
