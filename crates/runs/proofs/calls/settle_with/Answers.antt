use Rattle.std.proofs.Common.{◌≡◌, length, ap, ◌∙◌}
use Rattle.std.proofs.lemmas.List.{length-replicate}
use Rattle.runs.proofs.calls.settle_with.Goals as goal

pub returns-clause-settles : goal.returns-clause-settles
returns-clause-settles g c =
    let slots = c.as_mut_slice in
    let words = c.as_mut_slice-2 in
    let work = c.settle.new.work in
    let waiting : length slots.result.now ≡ c.args.waiting = ap length (slots.ensures.value ∙ c.in_ok-slots.ensures) ∙ length-replicate c.args.waiting _ in
    let numbers : length words.result.now ≡ c.args.numbers = ap length (words.ensures.value ∙ c.in_ok-words.ensures) ∙ length-replicate c.args.numbers _ in
    (slots.result.now, work.waiting.now, words.result.now, work.numbers.now, waiting, numbers, c.settle.ensures.settles)
