use Rattle.std.proofs.Common.{[], ◌∷◌, sym, refl, ap, ◌∙◌, rules}
use Rattle.std.proofs.Output.{has_written_of_eq}
use Rattle.listing.specs.Pages.{line}
use Rattle.listing.proofs.Columns.{columns_line, put_column, told}
use Rattle.listing.proofs.page.RowDisplay.fmt.Goals as goal

pub returns-clause-writes : goal.returns-clause-writes
returns-clause-writes g c =
    let r = c.args.self.now in
    let t = c.unwrap_or_default-route.result in
    let same = told r.route t _ c.unwrap_or_default-route.ensures (λ h. search rules) in
    let put = put_column _ r.source _ _ c.laid_out.ensures (put_column _ r.destination _ _ c.laid_out-2.ensures (put_column _ t.next _ _ c.laid_out-3.ensures (put_column _ t.links _ _ c.laid_out-4.ensures (put_column _ t.delay _ _ c.laid_out-5.ensures refl)))) in
    λ p ok. has_written_of_eq _ _ _ _ _ (put ∙ (columns_line (r.source ∷ (r.destination ∷ (t.next ∷ (t.links ∷ (t.delay ∷ []))))) ∙ ap (λ ns. line (r.source ∷ (r.destination ∷ ns))) (sym same))) (c.writeln.ensures.writes p ok)
