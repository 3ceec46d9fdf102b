-- The ASes that the first pass notes are a roster. Assumes nothing.
use Rattle.std.proofs.Common.{◌≡◌, ℕ, ◌<◌, ◌≤◌, true, List, [], ◌∷◌, length, drop, Ok, Err, Result, refl, ap, ◌∙◌, subst, arith}
use Rattle.std.proofs.lemmas.Bool.Decides.{nat_tests}
use Rattle.network.specs.Rosters.{climbs, roster_from}
use Rattle.link_text.specs.declared.types.Field.{Field}
use Rattle.link_text.specs.declared.types.Field.TheVariants.{First, Second}
use Rattle.link_text.specs.declared.types.TextFault.{TextFault}
use Rattle.link_text.specs.Fields.{names_as, bytes_of}
use Rattle.link_text.specs.Answers.{field_answer, field_of, start_answer}
use Rattle.link_list.specs.declared.types.Cause.{Cause}
use Rattle.link_list.specs.declared.types.Fault.{Fault}
use Rattle.listing.specs.Surveys.{noted, reading, going_on, as_survey, figures_survey, line_survey, Surveys}

pub noted_climbs : (low a : ℕ) (xs : List ℕ) → low < a → climbs low xs ≡ true → climbs low (noted a xs) ≡ true
noted_climbs low a [] h c = grind (arith, nat_tests)
noted_climbs low a (b ∷ bs) h c = let more = noted_climbs b a bs in grind (arith, nat_tests)

-- an AS that a field names is not 0
pub as_above : (f : Field) (bs : List ℕ) (a : ℕ) → names_as f ≡ true → field_answer f bs ≡ Ok a → 0 < a
as_above f bs a names e = grind (arith, nat_tests)

reading_ok : {A B : Type 0} (o : Result A TextFault) (f : A → Result B Cause) (y : B) → reading o f ≡ Ok y → (x : A) × (o ≡ Ok x) × (f x ≡ Ok y)
reading_ok (Ok x) f y e = (x, refl, e)
reading_ok (Err t) f y e = grind arith

going_ok : {A B : Type 0} (o : Result A Cause) (f : A → Result B Cause) (y : B) → going_on o f ≡ Ok y → (x : A) × (o ≡ Ok x) × (f x ≡ Ok y)
going_ok (Ok x) f y e = (x, refl, e)
going_ok (Err t) f y e = grind arith

as_climbs : (f : Field) (bs ases more : List ℕ) → names_as f ≡ true → as_survey f ases (field_answer f bs) ≡ Ok more → climbs 0 ases ≡ true → climbs 0 more ≡ true
as_climbs f bs ases more names e c =
    let a = reading_ok (field_answer f bs) _ more e in
    let up = noted_climbs 0 a.0 ases (as_above f bs a.0 names a.1) c in
    grind (arith, nat_tests, a.2)

line_climbs : (left ases more : List ℕ) → line_survey left ases ≡ Ok more → climbs 0 ases ≡ true → climbs 0 more ≡ true
line_climbs left ases more e c =
    let s = reading_ok (start_answer left) _ more e in
    let a = going_ok (as_survey First ases (field_of left First)) _ more s.2 in
    let b = going_ok (as_survey Second a.0 (field_of left Second)) _ more a.2 in
    let f = reading_ok (figures_survey (drop 20 left)) (λ _. Ok b.0) more b.2 in
    let same : b.0 ≡ more = cc f.2 in
    let first : climbs 0 a.0 ≡ true = as_climbs First (bytes_of First left) ases a.0 refl a.1 c in
    subst (λ xs. climbs 0 xs ≡ true) same (as_climbs Second (bytes_of Second left) a.0 b.0 refl b.1 first)

-- the ASes that the first pass finds
pub survey_climbs : (r : Result (List ℕ) Fault) (n : ℕ) (left ases all : List ℕ) → Surveys r n left ases → r ≡ Ok all → climbs 0 ases ≡ true → climbs 0 all ≡ true
survey_climbs r n left ases all (Surveys.done k xs e) q c = let same : ases ≡ all = cc in subst (λ xs. climbs 0 xs ≡ true) same c
survey_climbs r n left ases all (Surveys.stops k b rest xs cause e f) q c = grind arith
survey_climbs r n left ases all (Surveys.reads k rest xs more e next) q c = survey_climbs r _ _ more all next q (line_climbs left ases more e c)

own : (xs : List ℕ) → length xs ≤ 24 → climbs 0 xs ≡ true → roster_from 24 xs ≡ xs
own [] h c = refl
own (x ∷ xs) h c = grind (arith, nat_tests)

-- so they are the roster of a store that is made over them
pub own_roster : (ases given roster : List ℕ) → roster ≡ roster_from 24 given → given ≡ ases → length ases ≤ 24 → climbs 0 ases ≡ true → roster ≡ ases
own_roster ases given roster e same few up = e ∙ (ap (roster_from 24) same ∙ own ases few up)
