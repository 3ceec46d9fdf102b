use Rattle.std.proofs.Common.{take}
use Rattle.std.specs.Fmt.{HasWritten, IsPlainFormatter}
use Rattle.listing.specs.Pages.{page}
use Rattle.listing.proofs.page.ListingDisplay.fmt.Given as goal

-- the lines of the rows up to here are written
abbrev pub invariant-loop-row : goal.invariant-loop-row
invariant-loop-row g l =
    IsPlainFormatter l.initial.f → HasWritten g.W.Write.write_str_gives l.initial.f (page (take l.row-index l.row-items)) l.f
