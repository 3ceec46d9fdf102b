use Rattle.std.proofs.Common.{◌≡◌, ℕ, ◌-◌, List, length}
use Rattle.routes.specs.Columns.{Passed}
use Rattle.routes.proofs.column.Column.count_links.Given as goal

-- `count` ASes have been passed
abbrev pub invariant-loop-count : goal.invariant-loop-count
invariant-loop-count g l = (passed : List ℕ) × (length passed ≡ l.count) × Passed l.self l.fn.from l.at passed

abbrev pub decreases-loop-count : goal.decreases-loop-count
decreases-loop-count g l = l.most - l.count
