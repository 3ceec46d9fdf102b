-- The rows of a row store: which links may stand in them, where the link of a pair stands, and what else the memory holds. Assumes nothing.
use Rattle.std.specs.Prelude.{ℕ, suc, Bool, true, cond, ◌&&◌, ◌||◌, List, [], ◌∷◌, ◌++◌, length, drop, is_some, Ok, Err, Result, ◌==◌, nat_lt}
use Rattle.network.specs.declared.types.Link.{Link}
use Rattle.network.specs.Rosters.{place}
use Rattle.network.specs.Limits.{in_limits}
use Rattle.network.specs.Books.{joins, before}

-- a link between two ASes of the roster, its lower AS first and its figures in their limits
abbrev pub is_proper : List ℕ → Link → Bool
is_proper roster l =
    nat_lt l.low l.high && (is_some (place roster l.low) && (is_some (place roster l.high) && (in_limits l.figures.delay && in_limits l.figures.width)))

-- the link stands before each of the others
abbrev pub before_all : Link → List Link → Bool
before_all l [] = true
before_all l (k ∷ ks) = before l k && before_all l ks

-- proper links in the order of the book
abbrev pub is_book : List ℕ → List Link → Bool
is_book roster [] = true
is_book roster (l ∷ ls) = is_proper roster l && (before_all l ls && is_book roster ls)

abbrev pub one_on : Result ℕ ℕ → Result ℕ ℕ
one_on (Ok i) = Ok (suc i)
one_on (Err i) = Err (suc i)

-- the pair is less than that of the link
abbrev pub less : ℕ → ℕ → Link → Bool
less low high l = nat_lt low l.low || (low == l.low && nat_lt high l.high)

-- the first row whose pair is not less than this one: Ok if it is its link's, Err if its link would stand there
abbrev pub row_of : List Link → ℕ → ℕ → Result ℕ ℕ
row_of [] low high = Err 0
row_of (l ∷ ls) low high = cond (joins low high l) (Ok 0) (cond (less low high l) (Err 0) (one_on (row_of ls low high)))

-- the memory with this book in front; behind it, it is as it was
abbrev pub memory_with : List Link → List Link → List Link
memory_with book rows = book ++ drop (length book) rows
