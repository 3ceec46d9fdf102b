use Rattle.std.proofs.Common.{◌≡◌, ℕ, [], ◌∷◌, ◌++◌, length, take, string_bytes, sym, ap, ◌∙◌, arith}
use Rattle.std.specs.List.{flat_map, zip}
use Rattle.std.proofs.lemmas.List.{take_more, take_all, length_push, flat_map_more}
use Rattle.std.proofs.lemmas.Slice.Zip.{zip_turn, zip_end, length-zip, get_or-zip}
use Rattle.scripts.specs.Texts.{answer_line}
use Rattle.scripts.proofs.answers.page_of.Goals as goal

pub loop-call-preserved : goal.loop-call-preserved
loop-call-preserved g c =
    let xs = c.args.calls.now in
    let ys = c.args.replies.now in
    let call = c.in-Some.call.now in
    let reply = c.in-Some.reply.now in
    let n : ℕ = length c.loop-call.yielded in
    let t = zip_turn xs ys c.loop-call.yielded c.into_iter-call-iterator.result c.loop-call.call-iterator c.next.new.self c.next.result (cc) (cc) c.loop-call.yielded_by _ c.in-Some.is c.next.ensures.steps in
    let pair = get_or-zip xs ys n (call, reply) t.0 t.1 in
    let more = take_more (zip xs ys) n (call, reply) (omega (arith, length-zip xs ys, t.0, t.1)) in
    let upto : take (length (c.loop-call.yielded ++ (c.in-Some.call, c.in-Some.reply) ∷ [])) (zip xs ys) ≡ take n (zip xs ys) ++ (call, reply) ∷ [] =
    cc (length_push c.loop-call.yielded (c.in-Some.call, c.in-Some.reply), t.2 call, t.3 reply) in
    c.in_ok-writeln.ensures.bytes ∙
    ap (λ words. string_bytes c.loop-call.text ++ answer_line words reply) c.as_str.ensures ∙
    ap (λ bytes. bytes ++ answer_line (g.T.AsStr.text call) reply) c.loop-call.invariant ∙
    flat_map_more (λ x. answer_line (g.T.AsStr.text x.0) x.1) [] (take n (zip xs ys)) (call, reply) ∙
    ap (flat_map _) (sym upto)

pub returns : goal.returns
returns g c =
    let xs = c.args.calls.now in
    let ys = c.args.replies.now in
    let all = zip_end xs ys c.loop-call.yielded c.into_iter-call-iterator.result c.loop-call.call-iterator c.next.new.self c.next.result (cc) (cc) c.loop-call.yielded_by c.in-None.is c.next.ensures.steps in
    let lines = length-zip xs ys in
    c.loop-call.invariant ∙ ap (flat_map _) (take_all (length c.loop-call.yielded) (zip xs ys) (omega arith))
