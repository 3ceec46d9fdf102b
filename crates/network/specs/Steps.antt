-- Steps over links. A step's relation is what the AS that is left is to the AS that is reached:
-- Customer is a step up, Provider a step down, Peer a flat one. Assumes nothing.
use Rattle.std.specs.Prelude.{ℕ, cond, List, Some, None, Option, ◌==◌}
use Rattle.network.specs.declared.types.Link.{Link}
use Rattle.network.specs.declared.types.Figures.{Figures}
use Rattle.network.specs.declared.types.Relation.{Relation}
use Rattle.network.specs.Books.{link_of, turned}

-- the step from a over its link
abbrev pub step_over : ℕ → Option Link → Option (Relation × Figures)
step_over a None = None
step_over a (Some l) = Some (cond (l.low == a) l.relation (turned l.relation), l.figures)

-- the step from a to b, if they are linked
abbrev pub step_of : List Link → ℕ → ℕ → Option (Relation × Figures)
step_of book a b = step_over a (link_of book a b)

-- the AS at the other end of a link of b, and the relation of the step from it to b
abbrev pub far_end : Link → ℕ → Option (ℕ × Relation)
far_end l b = cond (l.low == b) (Some (l.high, turned l.relation)) (cond (l.high == b) (Some (l.low, l.relation)) None)
