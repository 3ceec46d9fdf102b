use Rattle.std.proofs.Common.{drop, Ok, Err, sym, ap, ◌∙◌}
use Rattle.std.proofs.lemmas.List.{drop-drop}
use Rattle.std.proofs.lemmas.Result.{err_from_is_err_and}
use Rattle.link_text.specs.Left.{left}
use Rattle.listing.proofs.Surveyed.{figures_by}
use Rattle.listing.proofs.survey.survey_figures.Goals as goal

pub returns-in_err-field-3-clause-answer : goal.returns-in_err-field-3-clause-answer
returns-in_err-field-3-clause-answer c =
    let p = err_from_is_err_and c.from_residual-in_err-field-3.result c.from_residual-in_err-field-3.ensures.1 in
    let e = c.in_err-field-3.field-0.0 in
    p.1 ∙ (ap Err p.2 ∙ sym (figures_by (left c.args.reader.now) (left c.field.new.self) (left c.field-2.new.self) c.in_ok-field.field-0 c.in_ok-field-2.field-0 (Err e) c.in_ok-field.ensures.answer c.field.ensures.moved.1 c.in_ok-field-2.ensures.answer c.field-2.ensures.moved.1 c.in_err-field-3.ensures.answer))

pub returns : goal.returns
returns c =
    let bs = left c.args.reader.now in
    let all = figures_by bs (left c.field.new.self) (left c.field-2.new.self) c.in_ok-field.field-0 c.in_ok-field-2.field-0 (Ok c.in_ok-field-3.field-0) c.in_ok-field.ensures.answer c.field.ensures.moved.1 c.in_ok-field-2.ensures.answer c.field-2.ensures.moved.1 c.in_ok-field-3.ensures.answer in
    let two = c.field-2.ensures.moved.1 ∙ (ap (drop 8) c.field.ensures.moved.1 ∙ drop-drop 8 4 bs) in
    let three = c.field-3.ensures.moved.1 ∙ (ap (drop 8) two ∙ drop-drop 8 12 bs) in
    record { answer = sym all; moved = λ _. c.end_line.ensures.1 ∙ (ap (drop 1) three ∙ drop-drop 1 20 bs) }
