-- A network: its ASes and the steps between them. Assumes nothing.
use Rattle.std.specs.Prelude.{◌≡◌, ℕ, ◌≤◌, ◌≢◌, ◌⊎◌, List, length, Some, Option}
use Rattle.network.specs.declared.types.Figures.{Figures}
use Rattle.network.specs.declared.types.Link.{Link}
use Rattle.network.specs.declared.types.Relation.{Relation}
use Rattle.network.specs.Rosters.{Among}
use Rattle.network.specs.Limits.{Limits}
use Rattle.network.specs.Books.{turned}
use Rattle.network.specs.Steps.{step_of}

-- step a b: what a is to b and the figures of their link, where the two are linked
pub record Network : Type 0 where
  pub roster : List ℕ
  pub step : ℕ → ℕ → Option (Relation × Figures)

-- Few ASes; links between two of them, with figures in their limits, that are the same from both ends.
pub record Sound (net : Network) : Type 0 where
  pub few : length net.roster ≤ 512
  pub near_end : (a b : ℕ) (r : Relation) (f : Figures) → net.step a b ≡ Some (r, f) → Among a net.roster
  pub far_end : (a b : ℕ) (r : Relation) (f : Figures) → net.step a b ≡ Some (r, f) → Among b net.roster
  pub no_loop : (a b : ℕ) (r : Relation) (f : Figures) → net.step a b ≡ Some (r, f) → a ≢ b
  pub limits : (a b : ℕ) (r : Relation) (f : Figures) → net.step a b ≡ Some (r, f) → Limits f
  pub back : (a b : ℕ) (r : Relation) (f : Figures) → net.step a b ≡ Some (r, f) → net.step b a ≡ Some (turned r, f)

-- the network of a roster and a book
abbrev pub net_of : List ℕ → List Link → Network
net_of roster book = record { roster = roster; step = step_of book }

-- the link is between a and b
abbrev pub Joins : Link → ℕ → ℕ → Type 0
Joins l a b = ((l.low ≡ a) × (l.high ≡ b)) ⊎ ((l.low ≡ b) × (l.high ≡ a))
