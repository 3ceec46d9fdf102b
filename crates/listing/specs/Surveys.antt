-- The first pass over a list: which ASes its lines name, or its first fault. Assumes nothing.
use Rattle.std.specs.Prelude.{◌≡◌, ℕ, ◌+◌, cond, List, [], ◌∷◌, length, take, drop, Ok, Err, Result, ◌==◌, nat_lt}
use Rattle.link_text.specs.declared.types.Field.{Field}
use Rattle.link_text.specs.declared.types.Field.TheVariants.{First, Second, Relation, Delay, Width}
use Rattle.link_text.specs.declared.types.TextFault.{TextFault}
use Rattle.link_text.specs.Answers.{start_answer, field_of, field_answer, and_then}
use Rattle.link_list.specs.declared.types.Cause.{Cause}
use Rattle.link_list.specs.declared.types.Cause.TheVariants.{TooManyAses, Text}
use Rattle.link_list.specs.declared.types.Fault.{Fault}
use Rattle.link_list.specs.Loads.{fault}

-- the ASes, in increasing order, with one that a line names
abbrev pub noted : ℕ → List ℕ → List ℕ
noted a [] = a ∷ []
noted a (b ∷ bs) = cond (nat_lt b a) (b ∷ noted a bs) (cond (b == a) (b ∷ bs) (a ∷ (b ∷ bs)))

-- go on with what the text says, unless it is at fault
abbrev pub reading : {A B : Type 0} → Result A TextFault → (A → Result B Cause) → Result B Cause
reading (Ok x) f = f x
reading (Err t) f = Err (Text t)

abbrev pub going_on : {A B : Type 0} → Result A Cause → (A → Result B Cause) → Result B Cause
going_on (Ok x) f = f x
going_on (Err c) f = Err c

-- a field that names an AS: no more than 24 are taken
abbrev pub as_survey : Field → List ℕ → Result ℕ TextFault → Result (List ℕ) Cause
as_survey f ases number = reading number (λ a. cond (nat_lt (length (noted a ases)) 25) (Ok (noted a ases)) (Err (TooManyAses f)))

-- the relation and the figures of a line, in front of bs: they are read for their form only
abbrev pub figures_survey : List ℕ → Result (Unit {0}) TextFault
figures_survey bs =
    and_then (field_answer Relation (take 4 bs)) (λ _.
    and_then (field_answer Delay (take 8 (drop 4 bs))) (λ _.
    and_then (field_answer Width (take 8 (drop 12 bs))) (λ _. Ok tt)))

-- the line in front of `left`: its first fault, or the ASes then
abbrev pub line_survey : List ℕ → List ℕ → Result (List ℕ) Cause
line_survey left ases =
    reading (start_answer left) (λ _.
    going_on (as_survey First ases (field_of left First)) (λ more.
    going_on (as_survey Second more (field_of left Second)) (λ all.
    reading (figures_survey (drop 20 left)) (λ _. Ok all))))

-- a part of the pass that should come to `want` answers r, and the ASes are these then
abbrev pub Surveyed : Result (List ℕ) Cause → List ℕ → Result (Unit {0}) Cause → Type 0
Surveyed want ases (Ok u) = want ≡ Ok ases
Surveyed want ases (Err c) = want ≡ Err c

-- The first pass over what is left of a text, after n lines that named these ASes, answers r.
pub data Surveys (r : Result (List ℕ) Fault) : ℕ → List ℕ → List ℕ → Type 0 where
  -- all lines are read
  done : (n : ℕ) (ases : List ℕ) → r ≡ Ok ases → Surveys r n [] ases
  -- a line is at fault
  stops : (n : ℕ) (b : ℕ) (left : List ℕ) (ases : List ℕ) (c : Cause) → line_survey (b ∷ left) ases ≡ Err c → r ≡ Err (fault c (n + 1)) → Surveys r n (b ∷ left) ases
  -- a line is read, and the pass goes on
  reads : (n : ℕ) (left : List ℕ) (ases more : List ℕ) → line_survey left ases ≡ Ok more → Surveys r (n + 1) (drop 41 left) more → Surveys r n left ases

-- what the pass answers, with the ASes that it leaves
abbrev pub survey_answer : List ℕ → Result (Unit {0}) Fault → Result (List ℕ) Fault
survey_answer ases (Ok u) = Ok ases
survey_answer ases (Err f) = Err f
