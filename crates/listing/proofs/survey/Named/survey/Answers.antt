use Rattle.std.proofs.Common.{◌≡◌, ℕ, ◌+◌, true, false, List, [], ◌∷◌, length, drop, is_ok, Ok, Err, vec_items, Result, sym, refl, ap, ◌∙◌, subst, arith, rules}
use Rattle.std.specs.Result.{MatchResult}
use Rattle.std.proofs.lemmas.Bool.{both_ways}
use Rattle.std.proofs.lemmas.Result.{err_from_is_err_and}
use Rattle.link_text.specs.declared.types.TextFault.{TextFault}
use Rattle.link_text.specs.Left.{left}
use Rattle.link_text.specs.Numerals.{none}
use Rattle.link_text.specs.Answers.{start_answer}
use Rattle.link_text.proofs.Lines.{long_line, shorter, no_more}
use Rattle.link_list.specs.declared.types.Cause.{Cause}
use Rattle.link_list.specs.declared.types.Fault.{Fault}
use Rattle.link_list.specs.Loads.{fault}
use Rattle.listing.specs.Surveys.{Surveys, done, stops, reads, reading, line_survey, Surveyed, survey_answer}
use Rattle.listing.proofs.survey.Named.survey.Goals as goal

first_ok : {A B : Type 0} (o : Result A TextFault) (f : A → Result B Cause) (y : B) → reading o f ≡ Ok y → (x : A) × (o ≡ Ok x)
first_ok (Ok x) f y e = (x, refl)
first_ok (Err t) f y e = let z : ◌≡◌ {A = ℕ} 0 1 = cc in absurd (omega arith)

-- a line that is read
line_ok : (r : Result (Unit {0}) Cause) (want : Result (List ℕ) Cause) (ases : List ℕ) → true ≡ is_ok r → Surveyed want ases r → want ≡ Ok ases
line_ok (Ok u) want ases t e = e
line_ok (Err x) want ases t e = absurd (both_ways false refl (sym t))

-- a line at fault
at_fault : (r : Result (Unit {0}) Cause) (n : ℕ) (bs was ases : List ℕ) (y : Fault) → none bs ≡ false → Surveyed (line_survey bs was) ases r → {P : Cause → Type 0} → MatchResult r (λ u. ◌≡◌ {A = Result (Unit {0}) Fault} (Err y) (Ok u)) P → ((c : Cause) → P c → y ≡ fault c (n + 1)) → Surveys (Err y) n bs was
at_fault (Ok u) n bs was ases y some e m is = let z : ◌≡◌ {A = ℕ} 0 1 = cc in absurd (omega arith)
at_fault (Err c) n [] was ases y some e m is = absurd (both_ways true some refl)
at_fault (Err c) n (b ∷ bs) was ases y some e m is = stops n b bs was c e (ap Err (is c m))

-- the next line was read: what is left is shorter by 41 bytes
next-line : (bs rest was ases : List ℕ) → line_survey bs was ≡ Ok ases → rest ≡ drop 41 bs → length rest + 41 ≡ length bs
next-line bs rest was ases e moved =
    let start = first_ok (start_answer bs) _ ases e in
    shorter bs rest (long_line bs start.0 start.1) moved

pub returns-in_err-map_err : goal.returns-in_err-map_err
returns-in_err-map_err c =
    let p = err_from_is_err_and c.from_residual.result c.from_residual.ensures.1 in
    let y = c.in_err-map_err.field-0.0 in
    let was = c.args.self.now in
    let stop = at_fault c.survey_line.result c.loop-reader.lines (left c.loop-reader.reader) (vec_items c.loop-reader.self.ases) (vec_items c.survey_line.new.self.ases) y (sym c.loop-reader-test.ensures) c.survey_line.ensures.answer c.in_err-map_err.ensures.cases (λ x h. search rules) in
    subst (λ r. Surveys (survey_answer (vec_items c.survey_line.new.self.ases) r) 0 c.args.text.now (vec_items was.ases)) (sym (p.1 ∙ ap Err p.2)) (c.loop-reader.invariant.1 (Err y) stop)

pub loop-reader-smaller : goal.loop-reader-smaller
loop-reader-smaller c =
    let bs = left c.loop-reader.reader in
    let e = c.survey_line.ensures in
    let ok = c.in_ok-map_err.ensures.variant in
    let less = next-line bs (left c.survey_line.new.reader) (vec_items c.loop-reader.self.ases) (vec_items c.survey_line.new.self.ases) (line_ok c.survey_line.result _ _ ok e.answer) (e.moved (sym ok)) in
    omega (arith, less)

pub loop-reader-preserved : goal.loop-reader-preserved
loop-reader-preserved c =
    let bs = left c.loop-reader.reader in
    let e = c.survey_line.ensures in
    let ok = c.in_ok-map_err.ensures.variant in
    let was = vec_items c.loop-reader.self.ases in
    let now_read = vec_items c.survey_line.new.self.ases in
    let line = line_ok c.survey_line.result (line_survey bs was) now_read ok e.answer in
    let moved = e.moved (sym ok) in (
      omega (arith, next-line bs (left c.survey_line.new.reader) was now_read line moved, c.loop-reader.invariant.0),
      λ r k. c.loop-reader.invariant.1 r (reads c.loop-reader.lines bs was now_read line (subst (λ l. Surveys r (c.loop-reader.lines + 1) l now_read) moved k)),
    )

pub returns : goal.returns
returns c =
    let ases = vec_items c.loop-reader.self.ases in
    let empty = no_more (left c.loop-reader.reader) (sym c.loop-reader-test.ensures) in
    c.loop-reader.invariant.1 (Ok ases) (subst (λ bs. Surveys (Ok ases) c.loop-reader.lines bs ases) (sym empty) (done c.loop-reader.lines ases refl))
