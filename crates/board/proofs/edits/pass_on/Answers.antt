use Rattle.std.proofs.Common.{rules, Ok, Err, refl, ap, ◌∙◌}
use Rattle.std.proofs.lemmas.Result.{err_from_is_err_and}
use Rattle.board.proofs.edits.pass_on.Goals as goal

pub returns-in_err-edit-clause-passes : goal.returns-in_err-edit-clause-passes
returns-in_err-edit-clause-passes g c =
    let told = err_from_is_err_and c.from_residual.result c.from_residual.ensures.1 in
    record {
      refused = λ h. let large = c.if-is_small.ensures in cc;
      passed_on = λ h. (
        Err c.in_err-edit.field-0.0,
        record {
          gives = record { shown = _; shows = refl; left = _; met = c.in_err-edit.ensures; leaves = refl };
          answer = told.1 ∙ ap Err told.2;
          marks_then = refl;
        },
      );
      entries_then = refl;
    }

pub returns-clause-passes : goal.returns-clause-passes
returns-clause-passes g c = record {
  refused = λ h. let large = c.if-is_small.ensures in cc;
  passed_on = λ h. (
    Ok c.in_ok-edit.field-0,
    record {
      gives = record { shown = _; shows = refl; left = _; met = c.in_ok-edit.ensures; leaves = refl };
      answer = refl;
      marks_then = search rules;
    },
  );
  entries_then = refl;
}
