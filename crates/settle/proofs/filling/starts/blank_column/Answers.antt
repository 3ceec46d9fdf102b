use Rattle.std.proofs.Common.{◌≡◌, rules}
use Rattle.std.specs.List.{All}
use Rattle.std.proofs.lemmas.Fn.{chained_keeps}
use Rattle.std.proofs.lemmas.List.Elements.{All-nil, All-push, All-get_or}
use Rattle.table.specs.Columns.{blank}
use Rattle.settle.proofs.filling.starts.blank_column.Goals as goal

pub returns : goal.returns
returns g c =
    let b = blank g.M.Measure.measure.start in
    let all = chained_keeps _ (λ xs f. All (λ x. x ≡ b) xs) (λ xs f x f' h k. All-push (λ x. x ≡ b) xs x h (search rules)) _ _ _ (All-nil _) c.fill_with.ensures.ran.1 in
    λ p h. All-get_or (λ x. x ≡ b) c.fill_with.new.self p b h all
