use Rattle.std.proofs.Common.{◌≢◌, [], ◌++◌, Err, sym, refl, ap, ◌∙◌}
use Rattle.std.proofs.lemmas.Result.{err_from_is_err_and}
use Rattle.network.specs.Books.{relation_of}
use Rattle.network.specs.Causes.{first_cause, pair_causes, figures_causes}
use Rattle.network.proofs.Causes.{causes_pass}
use Rattle.stores.specs.Refusals.{places, relation_causes}
use Rattle.stores.specs.Rows.{row_roster, row_limit}
use Rattle.stores.proofs.Refusals.{judged_ok, named_judged, placed, stopped}
use Rattle.stores.proofs.RowEdits.{linked}
use Rattle.stores.proofs.rows.RowStoreEditableStore.link.Goals as goal

pub returns-in_err-places_of-clause-edit : goal.returns-in_err-places_of-clause-edit
returns-in_err-places_of-clause-edit c =
    let roster = row_roster c.args.self.now in
    let a = c.args.first in
    let b = c.args.second in
    let p = err_from_is_err_and c.from_residual.result c.from_residual.ensures.1 in
    stopped [] (pair_causes roster a b []) _ _ roster _ _ c.in_err-places_of.field-0.0 (places roster a b) c.from_residual.result refl c.in_err-places_of.ensures (p.1 ∙ ap Err p.2)

pub returns-in_err-check_figures-clause-edit : goal.returns-in_err-check_figures-clause-edit
returns-in_err-check_figures-clause-edit c =
    let roster = row_roster c.args.self.now in
    let pair = pair_causes roster c.args.first c.args.second [] in
    let named = relation_causes c.args.relation in
    let p = err_from_is_err_and c.from_residual-in_err-check_figures.result c.from_residual-in_err-check_figures.ensures.1 in
    let pair_pass = (placed roster c.args.first c.args.second c.in_ok-places_of.field-0 c.in_ok-places_of.ensures).0 in
    let relation_pass = (judged_ok (first_cause named) c.in_ok-relation.relation (relation_of c.args.relation) (c.in_ok-relation.ensures ∙ named_judged c.args.relation)).0 in
    stopped (pair ++ named) (figures_causes c.args.figures []) _ _ roster _ _ c.in_err-check_figures.field-0.0 tt c.from_residual-in_err-check_figures.result (causes_pass pair named pair_pass ∙ relation_pass) c.in_err-check_figures.ensures (p.1 ∙ ap Err p.2)

pub invariant_of-self-clause-sorted : goal.invariant_of-self-clause-sorted
invariant_of-self-clause-sorted c =
    let s = c.args.self.now in
    let free : s.used ≢ row_limit s = λ e. c.if-self-link_limit.false (e ∙ sym c.link_limit.ensures) in
    (linked s c.args.first c.args.second c.in_ok-places_of.field-0 c.in_ok-places_of.ensures c.args.figures c.in_ok-check_figures.field-0 c.in_ok-check_figures.ensures c.args.relation c.in_ok-relation.relation c.in_ok-relation.ensures c.in-Err.row c.in-Err.ensures.row free c.insert_row.new.rows c.entered-link.result c.entered-link.ensures c.insert_row.ensures.book c.insert_row.ensures.len).sorted

pub returns-clause-edit : goal.returns-clause-edit
returns-clause-edit c =
    let s = c.args.self.now in
    let free : s.used ≢ row_limit s = λ e. c.if-self-link_limit.false (e ∙ sym c.link_limit.ensures) in
    (linked s c.args.first c.args.second c.in_ok-places_of.field-0 c.in_ok-places_of.ensures c.args.figures c.in_ok-check_figures.field-0 c.in_ok-check_figures.ensures c.args.relation c.in_ok-relation.relation c.in_ok-relation.ensures c.in-Err.row c.in-Err.ensures.row free c.insert_row.new.rows c.entered-link.result c.entered-link.ensures c.insert_row.ensures.book c.insert_row.ensures.len).edit
