use Rattle.std.proofs.Common.{ℕ, ◌+◌, ◌*◌, ◌≤◌, List, length, vec_items, Result}
use Rattle.link_text.specs.Left.{left}
use Rattle.link_list.specs.declared.types.Fault.{Fault}
use Rattle.listing.specs.Surveys.{Surveys}
use Rattle.listing.proofs.survey.Named.survey.Given as goal

-- what a pass from here on comes to, the whole pass does
abbrev pub invariant-loop-reader : goal.invariant-loop-reader
invariant-loop-reader l =
    (41 * l.lines + length (left l.reader) ≤ length l.text) ×
    ((r : Result (List ℕ) Fault) → Surveys r l.lines (left l.reader) (vec_items l.self.ases) → Surveys r 0 l.text (vec_items l.initial.self.ases))

abbrev pub decreases-loop-reader : goal.decreases-loop-reader
decreases-loop-reader l = length (left l.reader)
