use Rattle.std.proofs.Common.{sym, refl, ap, ◌∙◌}
use Rattle.std.proofs.lemmas.Option.{slice_get-get_or, same_Some}
use Rattle.network.specs.Steps.{far_end}
use Rattle.settle.proofs.Linked.{end_known}
use Rattle.settle.proofs.filling.ends.end_at.Goals as goal

pub returns-in_err-place_of : goal.returns-in_err-place_of
returns-in_err-place_of g c =
    let roster = g.S.Store.roster c.args.store.now in
    let number = same_Some _ _ (sym c.in_ok-number.was ∙ c.as_at.ensures ∙ slice_get-get_or roster c.args.place 0 c.requires) in
    let far = ap (far_end c.in_ok-link.link) (sym number) ∙ sym c.other_end.ensures ∙ c.in_ok-end.was in
    absurd (end_known roster (g.S.Store.book c.args.store.now) (g.met.S.Store.sound c.args.store.now) c.args.spot c.in_ok-link.link (sym c.link_at.ensures ∙ c.in_ok-link.was) _ c.in_ok-end.end c.in_ok-end.relation far (sym c.place_of.ensures ∙ c.in_err-place_of.was))

pub returns : goal.returns
returns g c =
    let roster = g.S.Store.roster c.args.store.now in
    let number = same_Some _ _ (sym c.in_ok-number.was ∙ c.as_at.ensures ∙ slice_get-get_or roster c.args.place 0 c.requires) in
    record {
      link = c.in_ok-link.link;
      stands = sym c.link_at.ensures ∙ c.in_ok-link.was;
      other = c.in_ok-end.end;
      far = ap (far_end c.in_ok-link.link) (sym number) ∙ sym c.other_end.ensures ∙ c.in_ok-end.was;
      here = sym c.place_of.ensures ∙ c.in_ok-place_of.was;
      figures = refl;
    }
