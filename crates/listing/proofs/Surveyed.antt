-- A line of the first pass, put together from what its parts answered. Assumes nothing.
use Rattle.std.proofs.Common.{◌≡◌, ℕ, List, take, drop, Ok, Result, sym, refl, ap, ◌∙◌}
use Rattle.std.proofs.lemmas.List.{drop-drop}
use Rattle.link_text.specs.declared.types.Field.TheVariants.{First, Second, Relation, Delay, Width}
use Rattle.link_text.specs.declared.types.TextFault.{TextFault}
use Rattle.link_text.specs.Answers.{field_answer, field_of, start_answer, and_then}
use Rattle.listing.specs.Surveys.{as_survey, figures_survey, line_survey, reading}

-- the width, after a relation and a delay that are well formed
pub figures_by : (bs bs₁ bs₂ : List ℕ) (x y : ℕ) (w : Result ℕ TextFault) → Ok x ≡ field_answer Relation (take 4 bs) → bs₁ ≡ drop 4 bs → Ok y ≡ field_answer Delay (take 8 bs₁) → bs₂ ≡ drop 8 bs₁ → w ≡ field_answer Width (take 8 bs₂) → figures_survey bs ≡ and_then w (λ _. Ok tt)
figures_by bs bs₁ bs₂ x y w r p d q e =
    let far : bs₂ ≡ drop 12 bs = q ∙ (ap (drop 8) p ∙ drop-drop 8 4 bs) in
    let relation : field_answer Relation (take 4 bs) ≡ Ok x = sym r in
    let delay : field_answer Delay (take 8 (drop 4 bs)) ≡ Ok y = sym (d ∙ ap (λ l. field_answer Delay (take 8 l)) p) in
    let width : field_answer Width (take 8 (drop 12 bs)) ≡ w = sym (e ∙ ap (λ l. field_answer Width (take 8 l)) far) in
    rw (relation, delay, width) refl

-- the rest of a line, after its two ASes
pub line_by : (bs bs₁ bs₂ : List ℕ) (ases more all : List ℕ) (u : Unit {0}) (w : Result (Unit {0}) TextFault) → Ok u ≡ start_answer bs → as_survey First ases (field_answer First (take 10 bs)) ≡ Ok more → bs₁ ≡ drop 10 bs → as_survey Second more (field_answer Second (take 10 bs₁)) ≡ Ok all → bs₂ ≡ drop 10 bs₁ → w ≡ figures_survey bs₂ → line_survey bs ases ≡ reading w (λ _. Ok all)
line_by bs bs₁ bs₂ ases more all u w s a p b q e =
    let far : bs₂ ≡ drop 20 bs = q ∙ (ap (drop 10) p ∙ drop-drop 10 10 bs) in
    let start : start_answer bs ≡ Ok u = sym s in
    let second : as_survey Second more (field_of bs Second) ≡ Ok all = ap (λ l. as_survey Second more (field_answer Second (take 10 l))) (sym p) ∙ b in
    let figures : figures_survey (drop 20 bs) ≡ w = sym (e ∙ ap figures_survey far) in
    rw (start, a, second, figures) refl
