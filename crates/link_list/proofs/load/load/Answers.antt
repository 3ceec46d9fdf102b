use Rattle.std.proofs.Common.{Ok, Err, sym, refl, ◌∙◌, arith, rules}
use Rattle.std.proofs.lemmas.Result.{err_from_is_err_and}
use Rattle.table.proofs.Same.{still_same}
use Rattle.link_text.specs.Left.{left}
use Rattle.link_text.proofs.Lines.{no_more}
use Rattle.link_list.specs.Loads.{done}
use Rattle.link_list.proofs.Loaded.{same_terms, stops, goes_on}
use Rattle.link_list.proofs.load.load.Goals as goal

pub returns-in_err-map_err-clause-loads : goal.returns-in_err-map_err-clause-loads
returns-in_err-map_err-clause-loads g c =
    let p = err_from_is_err_and c.from_residual.result c.from_residual.ensures.1 in
    let y = c.in_err-map_err.field-0.0 in
    let i = c.loop-reader.invariant in
    let then = c.enter_line.new in
    let line = same_terms i.1 i.2 i.3 c.enter_line.ensures.enters in
    let stop = stops c.loop-reader.entered y (sym c.loop-reader-test.ensures) line c.in_err-map_err.ensures.cases (λ x h. search rules) in
    simp (p.1, p.2) (i.5 (g.S.Store.book then.store) then.table.marks.now (Err y) stop)

pub loop-reader-smaller : goal.loop-reader-smaller
loop-reader-smaller g c =
    let i = c.loop-reader.invariant in
    let next = goes_on c.loop-reader.entered (same_terms i.1 i.2 i.3 c.enter_line.ensures.enters) c.in_ok-map_err.ensures.variant in
    omega (arith, next.0)

pub loop-reader-preserved : goal.loop-reader-preserved
loop-reader-preserved g c =
    let i = c.loop-reader.invariant in
    let e = c.enter_line.ensures in
    let next = goes_on c.loop-reader.entered (same_terms i.1 i.2 i.3 e.enters) c.in_ok-map_err.ensures.variant in (
      still_same i.0 e.same,
      e.roster ∙ i.1,
      e.limit ∙ i.2,
      e.entries ∙ i.3,
      omega (arith, next.0, i.4),
      λ book' marks' r k. i.5 book' marks' r (next.1 book' marks' r k),
    )

pub returns-clause-loads : goal.returns-clause-loads
returns-clause-loads g c =
    let n = c.loop-reader.entered in
    let empty = no_more (left c.loop-reader.reader) (sym c.loop-reader-test.ensures) in
    c.loop-reader.invariant.5 (g.S.Store.book c.loop-reader.store) c.loop-reader.table.marks.now (Ok n) (rw empty (done n refl))
