use Rattle.std.proofs.Common.{◌≡◌, length, take, string_bytes}
use Rattle.std.specs.List.{flat_map, zip}
use Rattle.scripts.specs.Texts.{answer_line}
use Rattle.scripts.proofs.answers.page_of.Given as goal

abbrev pub invariant-loop-call : goal.invariant-loop-call
invariant-loop-call g l =
    string_bytes l.text ≡ flat_map (λ x. answer_line (g.T.AsStr.text x.0) x.1) (take (length l.yielded) (zip l.calls l.replies))
