use Rattle.std.proofs.Common.{Ok, Err, vec_items, refl, subst, arith}
use Rattle.std.proofs.lemmas.Result.{IfOk-weaker}
use Rattle.listing.specs.Surveys.{Surveys}
use Rattle.listing.specs.Listings.{malformed, well_formed}
use Rattle.listing.proofs.list_routes.Goals as goal

pub returns-in-Err : goal.returns-in-Err
returns-in-Err c =
    malformed c.in-Err.fault (omega arith) (subst (Surveys (Err c.in-Err.fault) 0 c.args.text.now) c.in_ok-named.ensures c.in-Err.ensures) refl

pub returns : goal.returns
returns c =
    let ases = vec_items c.survey.new.self.ases in
    let found = subst (Surveys (Ok ases) 0 c.args.text.now) c.in_ok-named.ensures c.in_default.ensures in
    IfOk-weaker c.table_of.result _ _ (λ l t. well_formed ases (omega arith) found t) c.table_of.ensures
