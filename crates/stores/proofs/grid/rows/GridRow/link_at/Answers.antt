use Rattle.std.specs.Prelude.{slice_get}
use Rattle.std.proofs.Common.{◌≡◌, ℕ, zero, suc, ◌+◌, ◌-◌, ◌<◌, List, ◌∷◌, length, drop, Some, None, sym, refl, ap, ◌∙◌, arith}
use Rattle.std.proofs.lemmas.List.{at_drop_all}
use Rattle.stores.specs.Cells.{filled}
use Rattle.stores.specs.CellsLemmas.{filled_drop}
use Rattle.stores.proofs.grid.rows.GridRow.link_at.Goals as goal
use Rattle.stores.proofs.grid.rows.GridRow.link_at.Goals.{in-Some+else-left-eq0, in_default}

get_rest : {X : Type 0} (x : X) (xs : List X) (k : ℕ) → (k ≡ 0 → ⊥) → slice_get (x ∷ xs) k ≡ slice_get xs (k - 1)
get_rest x xs zero h = absurd (h refl)
get_rest x xs (suc k) h = let e : k ≡ suc k - 1 = omega arith in ap (slice_get xs) e

pub returns-then-left-eq0 : goal.returns-then-left-eq0
returns-then-left-eq0 c =
    let cells = c.args.self.now.cells in
    let i = c.loop-cell.cell-index in
    let l = c.in-Some.link in
    let within : i < length cells = omega arith in
    let step = filled_drop cells i (Some l) within c.in-Some.is in
    sym (ap (slice_get (l ∷ filled (drop (i + 1) cells))) c.if-left-eq0.true) ∙ sym (ap (λ b. slice_get b c.loop-cell.left) step) ∙ c.loop-cell.invariant

pub loop-cell-preserved : goal.loop-cell-preserved
loop-cell-preserved c =
    let cells = c.args.self.now.cells in
    let i = c.loop-cell.cell-index in
    let left = c.loop-cell.left in
    let rest = filled (drop (i + 1) cells) in
    let within : i < length cells = omega arith in
    elim c.match-cell.branch [
      | in-Some+else-left-eq0 w ↦
          let l = w.in-Some.link in
          let step = filled_drop cells i (Some l) within w.in-Some.is in
          ap (slice_get rest) w.left-is ∙ sym (get_rest l rest left w.if-left-eq0.false) ∙ sym (ap (λ b. slice_get b left) step) ∙ c.loop-cell.invariant
      | in_default w ↦ ap (slice_get rest) w.left-is ∙ sym (ap (λ b. slice_get b left) (filled_drop cells i None within w.in_default.is)) ∙ c.loop-cell.invariant
    ]

pub returns : goal.returns
returns c =
    let cells = c.args.self.now.cells in
    let past = at_drop_all (λ cs. slice_get (filled cs) c.loop-cell.left) cells c.loop-cell.cell-index (omega arith) in
    sym past ∙ c.loop-cell.invariant
