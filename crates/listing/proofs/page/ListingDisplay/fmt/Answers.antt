use Rattle.std.proofs.Common.{◌≡◌, [], ◌∷◌, sym, refl, ap, ◌∙◌}
use Rattle.std.proofs.Output.{has_written_of_eq}
use Rattle.link_list.specs.Faults.{cause_number, cause_column, cause_layer}
use Rattle.listing.specs.Pages.{line, fault_numbers, printed}
use Rattle.listing.proofs.Columns.{columns_line, put_column}
use Rattle.listing.proofs.page.ListingDisplay.fmt.Goals as goal

pub returns-in-Faulty-clause-writes : goal.returns-in-Faulty-clause-writes
returns-in-Faulty-clause-writes g c =
    let f = c.in-Faulty.fault in
    let n = c.number.result in
    let k = c.column.result in
    let l = c.layer.result in
    let number : n ≡ cause_number f.cause = c.number.ensures in
    let column : k ≡ cause_column f.cause = c.column.ensures in
    let layer : l ≡ cause_layer f.cause = c.layer.ensures in
    let told : n ∷ (f.line ∷ (k ∷ (l ∷ []))) ≡ fault_numbers f = cc in
    let put = put_column _ n _ _ c.laid_out.ensures (put_column _ f.line _ _ c.laid_out-in-Faulty.ensures (put_column _ k _ _ c.laid_out-in-Faulty-2.ensures (put_column _ l _ _ c.laid_out-in-Faulty-3.ensures refl))) in
    λ p ok. has_written_of_eq _ _ _ _ _ (put ∙ (columns_line (n ∷ (f.line ∷ (k ∷ (l ∷ [])))) ∙ (ap line told ∙ ap printed (sym c.in-Faulty.is)))) (c.writeln.ensures.writes p ok)
