-- The plain book: a list of links in increasing order of lower AS, then higher AS. Assumes nothing.
use Rattle.std.specs.Prelude.{ℕ, min, max, Bool, cond, ◌&&◌, ◌||◌, List, [], ◌∷◌, Some, None, Ok, Err, Option, Result, ◌==◌, nat_le, nat_lt}
use Rattle.network.specs.declared.types.Link.{Link}
use Rattle.network.specs.declared.types.Figures.{Figures}
use Rattle.network.specs.declared.types.Relation.{Relation}
use Rattle.network.specs.declared.types.Relation.TheVariants.{Provider, Customer, Peer}
use Rattle.network.specs.declared.types.EditRefusal.{EditRefusal}
use Rattle.network.specs.declared.types.EditRefusal.TheVariants.{BadRelation}

-- the link is that of this pair, lower AS first
abbrev pub joins : ℕ → ℕ → Link → Bool
joins low high l = l.low == low && l.high == high

abbrev pub find : List Link → ℕ → ℕ → Option Link
find [] low high = None
find (l ∷ ls) low high = cond (joins low high l) (Some l) (find ls low high)

-- the link of a pair, named in either order
abbrev pub link_of : List Link → ℕ → ℕ → Option Link
link_of book a b = find book (min a b) (max a b)

-- a link stands before another
abbrev pub before : Link → Link → Bool
before l k = nat_lt l.low k.low || (l.low == k.low && nat_lt l.high k.high)

-- the book with one link more, in its order
abbrev pub added : List Link → Link → List Link
added [] new = new ∷ []
added (l ∷ ls) new = cond (before l new) (l ∷ added ls new) (new ∷ (l ∷ ls))

abbrev pub with_figures : Link → Figures → Link
with_figures l f = record { low = l.low; high = l.high; relation = l.relation; figures = f }

-- the book with new figures for the link of a pair
abbrev pub recosted : List Link → ℕ → ℕ → Figures → List Link
recosted [] low high f = []
recosted (l ∷ ls) low high f = cond (joins low high l) (with_figures l f) l ∷ recosted ls low high f

-- the book without the link of a pair
abbrev pub without : List Link → ℕ → ℕ → List Link
without [] low high = []
without (l ∷ ls) low high = cond (joins low high l) ls (l ∷ without ls low high)

-- the relation that a number stands for: 1, 2 and 3
abbrev pub relation_of : ℕ → Relation
relation_of r = cond (r == 1) Provider (cond (r == 2) Customer Peer)

-- .. and the answer to it; any other number is refused
abbrev pub relation_named : ℕ → Result Relation EditRefusal
relation_named r = cond (nat_le 1 r && nat_le r 3) (Ok (relation_of r)) (Err BadRelation)

-- the same link, told from its other end
abbrev pub turned : Relation → Relation
turned Provider = Customer
turned Customer = Provider
turned Peer = Peer

-- a link as the book keeps it, lower AS first; the relation is what a is to b
abbrev pub entered : ℕ → ℕ → Relation → Figures → Link
entered a b r f = record { low = min a b; high = max a b; relation = cond (nat_lt a b) r (turned r); figures = f }
