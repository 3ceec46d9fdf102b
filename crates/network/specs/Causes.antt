-- Why an edit is refused: its causes in the order in which they are tested. Assumes nothing.
use Rattle.std.specs.Prelude.{ℕ, Bool, cond, not, ◌&&◌, List, [], ◌∷◌, length, is_some, Some, None, Option, ◌==◌, nat_le}
use Rattle.network.specs.declared.types.Link.{Link}
use Rattle.network.specs.declared.types.Figures.{Figures}
use Rattle.network.specs.declared.types.EditRefusal.{EditRefusal}
use Rattle.network.specs.declared.types.EditRefusal.TheVariants.{UnknownFirst, UnknownSecond, SameAs, BadRelation, BadDelay, BadWidth, AlreadyLinked, NotLinked, Full}
use Rattle.network.specs.Rosters.{place}
use Rattle.network.specs.Limits.{in_limits}
use Rattle.network.specs.Books.{link_of}

-- the first cause that applies
abbrev pub first_cause : {R : Type 0} → List (R × Bool) → Option R
first_cause [] = None
first_cause (c ∷ cs) = cond c.1 (Some c.0) (first_cause cs)

abbrev pub unknown : List ℕ → ℕ → Bool
unknown roster a = not (is_some (place roster a))

abbrev pub pair_causes : List ℕ → ℕ → ℕ → List (EditRefusal × Bool) → List (EditRefusal × Bool)
pair_causes roster a b more = (UnknownFirst, unknown roster a) ∷ ((UnknownSecond, unknown roster b) ∷ ((SameAs, (a == b)) ∷ more))

abbrev pub figures_causes : Figures → List (EditRefusal × Bool) → List (EditRefusal × Bool)
figures_causes f more = (BadDelay, not (in_limits f.delay)) ∷ ((BadWidth, not (in_limits f.width)) ∷ more)

abbrev pub link_causes : List ℕ → List Link → ℕ → ℕ → ℕ → ℕ → Figures → List (EditRefusal × Bool)
link_causes roster book limit a b relation f =
    pair_causes roster a b ((BadRelation, not (nat_le 1 relation && nat_le relation 3)) ∷ figures_causes f ((AlreadyLinked, is_some (link_of book a b)) ∷ ((Full, (length book == limit)) ∷ [])))

abbrev pub recost_causes : List ℕ → List Link → ℕ → ℕ → Figures → List (EditRefusal × Bool)
recost_causes roster book a b f = pair_causes roster a b (figures_causes f ((NotLinked, not (is_some (link_of book a b))) ∷ []))

abbrev pub unlink_causes : List ℕ → List Link → ℕ → ℕ → List (EditRefusal × Bool)
unlink_causes roster book a b = pair_causes roster a b ((NotLinked, not (is_some (link_of book a b))) ∷ [])
