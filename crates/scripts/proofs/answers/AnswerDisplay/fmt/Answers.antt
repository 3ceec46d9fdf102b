use Rattle.std.proofs.Common.{rules, ◌≡◌, ◌+◌, ◌-◌, ℕ, List, Bor, take, Option, Some, None, sym, ap, ◌∙◌, subst, arith}
use Rattle.std.specs.Option.{unwrap_or}
use Rattle.std.specs.Slice.{IsGetRangeResult}
use Rattle.std.proofs.lemmas.List.{take_all}
use Rattle.std.proofs.Output.{has_written_of_eq}
use Rattle.scripts.specs.Texts.{path_text, reply_text}
use Rattle.scripts.proofs.answers.AnswerDisplay.fmt.Goals as goal

-- the first n of a list, or all of it where it has fewer
front : (xs : List ℕ) (n : ℕ) (part : Option (Bor (List ℕ))) (all : Bor (List ℕ)) → IsGetRangeResult xs 0 n part → all.now ≡ xs → (unwrap_or part all).now ≡ take n xs
front xs n None all told e = e ∙ sym (take_all n xs (omega (arith, told.0)))
front xs n (Some x) all told e =
    let whole : n - 0 ≡ n = omega arith in
    told.0.2 ∙ ap (λ k. take k xs) whole

pub returns-in-Sent-Ok-default-clause-writes : goal.returns-in-Sent-Ok-default-clause-writes
returns-in-Sent-Ok-default-clause-writes g c = λ plain done.
    let sent = c.in-Sent-Ok-default in
    let ases : c.unwrap_or.result.now ≡ take (sent.links + 1) sent.list.items =
    ap (λ x. x.now) c.unwrap_or.ensures ∙ front sent.list.items (sent.links + 1) _ _ (subst (λ xs. IsGetRangeResult xs 0 (sent.links + 1) c.get.result) c.deref.ensures.value c.get.ensures.lookup) c.deref-in-Sent-Ok-default.ensures.value in
    let words : path_text sent.delay sent.links sent.list.items ≡ reply_text c.args.self.now.reply.now = search rules in
    has_written_of_eq _ _ _ _ _ (rw ases words) (c.write-in-Sent-Ok-default.ensures.writes plain done)
