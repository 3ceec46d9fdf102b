use Rattle.std.proofs.Common.{drop, Ok, Err, vec_items, sym, refl, ap, ◌∙◌, subst}
use Rattle.std.proofs.lemmas.List.{drop-drop}
use Rattle.std.proofs.lemmas.Result.{err_from_is_err_and}
use Rattle.link_text.specs.Left.{left}
use Rattle.listing.specs.Surveys.{Surveyed}
use Rattle.listing.proofs.Surveyed.{line_by}
use Rattle.listing.proofs.survey.Named.survey_line.Goals as goal

pub returns-in_err-survey_figures-clause-answer : goal.returns-in_err-survey_figures-clause-answer
returns-in_err-survey_figures-clause-answer c =
    let p = err_from_is_err_and c.from_residual-in_err-survey_figures.result c.from_residual-in_err-survey_figures.ensures.1 in
    let e = c.in_err-survey_figures.field-0.0 in
    let all = line_by (left c.args.reader.now) (left c.survey_as.new.reader) (left c.survey_as-2.new.reader) (vec_items c.args.self.now.ases) (vec_items c.survey_as.new.self.ases) (vec_items c.survey_as-2.new.self.ases) c.in_ok-begin_line.field-0 (Err e) c.in_ok-begin_line.ensures c.in_ok-survey_as.ensures.answer c.survey_as.ensures.moved.1 c.in_ok-survey_as-2.ensures.answer c.survey_as-2.ensures.moved.1 c.in_err-survey_figures.ensures.answer in
    subst (Surveyed _ _) (sym p.1) (all ∙ ap Err (sym p.2))

pub returns : goal.returns
returns c =
    let bs = left c.args.reader.now in
    let all = line_by bs (left c.survey_as.new.reader) (left c.survey_as-2.new.reader) (vec_items c.args.self.now.ases) (vec_items c.survey_as.new.self.ases) (vec_items c.survey_as-2.new.self.ases) c.in_ok-begin_line.field-0 (Ok c.in_ok-survey_figures.field-0) c.in_ok-begin_line.ensures c.in_ok-survey_as.ensures.answer c.survey_as.ensures.moved.1 c.in_ok-survey_as-2.ensures.answer c.survey_as-2.ensures.moved.1 c.in_ok-survey_figures.ensures.answer in
    let two = c.survey_as-2.ensures.moved.1 ∙ (ap (drop 10) c.survey_as.ensures.moved.1 ∙ drop-drop 10 10 bs) in
    record {
      answer = all;
      moved = λ _. c.in_ok-survey_figures.ensures.moved refl ∙ (ap (drop 21) two ∙ drop-drop 21 20 bs);
    }
