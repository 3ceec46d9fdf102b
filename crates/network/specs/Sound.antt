-- What holds of the roster and the book of every store. Assumes nothing.
use Rattle.std.specs.Prelude.{◌≡◌, ℕ, ◌<◌, ◌≤◌, true, List, [], ◌∷◌, length}
use Rattle.std.specs.List.{AllByRecursion}
use Rattle.network.specs.declared.types.Link.{Link}
use Rattle.network.specs.Rosters.{Among, climbs}
use Rattle.network.specs.Limits.{Limits}
use Rattle.network.specs.Books.{before}

-- a link between two ASes of the roster, its figures in their limits
pub record Proper (roster : List ℕ) (l : Link) : Type 0 where
  pub ordered : l.low < l.high
  pub low_known : Among l.low roster
  pub high_known : Among l.high roster
  pub limits : Limits l.figures

-- each link stands before all that follow it, so that a pair has at most one
abbrev pub InOrder : List Link → Type 0
InOrder [] = Unit {0}
InOrder (l ∷ ls) = AllByRecursion (λ k. before l k ≡ true) ls × InOrder ls

pub record Sound (roster : List ℕ) (book : List Link) : Type 0 where
  pub few : length roster ≤ 512
  pub rising : climbs 0 roster ≡ true
  pub proper : AllByRecursion (Proper roster) book
  pub in_order : InOrder book
