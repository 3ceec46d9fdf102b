-- The other end of a link of a book. Assumes nothing.
use Rattle.std.specs.Prelude.{◌≡◌, ℕ, List, Some, None, slice_index, slice_get}
use Rattle.network.specs.declared.types.Link.{Link}
use Rattle.network.specs.Rosters.{place}
use Rattle.network.specs.Steps.{far_end}
use Rattle.settle.specs.declared.filling.ends.End.{End}

-- the link at the place k, if there is one, is none of the AS at the place i
abbrev pub NoEnd : List ℕ → List Link → ℕ → ℕ → Type 0
NoEnd roster book i k = (l : Link) → slice_get book k ≡ Some l → far_end l (slice_index roster i) ≡ None

-- The link at the place k joins the AS at the place i with another one, which is at e.spot; e.relation is that of the step from there.
pub record Other (roster : List ℕ) (book : List Link) (i k : ℕ) (e : End) : Type 0 where
  pub link : Link
  pub stands : slice_get book k ≡ Some link
  pub other : ℕ
  pub far : far_end link (slice_index roster i) ≡ Some (other, e.relation)
  pub here : place roster other ≡ Some e.spot
  pub figures : e.figures ≡ link.figures
