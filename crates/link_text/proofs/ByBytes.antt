-- Reading a field byte by byte gives the answer that its digits have. Assumes nothing.
use Rattle.std.proofs.Common.{◌≡◌, ℕ, ◌+◌, ◌-◌, ◌*◌, ◌<◌, ◌≤◌, true, false, cond, not, ◌&&◌, ◌||◌, eqb, List, [], ◌∷◌, Err, refl, ap, arith}
use Rattle.std.proofs.lemmas.Bool.Decides.{nat_tests}
use Rattle.link_text.specs.declared.numeral.Numeral.TheVariants.{Blank, Number, TooGreat, Broken}
use Rattle.link_text.specs.declared.types.Field.{Field}
use Rattle.link_text.specs.declared.types.TextFault.TheVariants.{BadField, BadNumber}
use Rattle.link_text.specs.Numerals.{is_digit, all_digits, none, plain, value, value_after, greatest}
use Rattle.link_text.specs.Steps.{read, kept_answer}
use Rattle.link_text.specs.Answers.{number_answer, field_answer}

-- digits behind a number make it no smaller
value_grows : (v : ℕ) (ds : List ℕ) → v ≤ value_after v ds
value_grows v [] = omega arith
value_grows v (d ∷ ds) = let h = value_grows (10 * v + (d - 48)) ds in omega arith

read_broken : (bs : List ℕ) → read Broken bs ≡ Broken
read_broken [] = refl
read_broken (b ∷ bs) = read_broken bs

-- What the field f answers once the bytes bs are read, by what was kept before them.
module _ (f : Field) where
  after_broken : (bs : List ℕ) → kept_answer f (read Broken bs) ≡ Err (BadField f)
  after_broken bs = ap (kept_answer f) (read_broken bs)

  after_too_great : (bs : List ℕ) → kept_answer f (read TooGreat bs) ≡ cond (all_digits bs) (Err (BadNumber f)) (Err (BadField f))
  after_too_great [] = refl
  after_too_great (b ∷ bs) = elim (is_digit b) as (λ t. kept_answer f (read (cond t TooGreat Broken) bs) ≡ cond (t && all_digits bs) (Err (BadNumber f)) (Err (BadField f))) [ true ↦ after_too_great bs | false ↦ after_broken bs ]

  number_too_great : (n : ℕ) → greatest < n → number_answer f n ≡ Err (BadNumber f)
  number_too_great n h = grind (arith, nat_tests)

  after_number : (v : ℕ) (bs : List ℕ) → kept_answer f (read (Number v) bs) ≡ cond (all_digits bs && (none bs || not (eqb v 0))) (number_answer f (value_after v bs)) (Err (BadField f))
  after_number v [] = refl
  after_number v (b ∷ bs) =
      let n = 10 * v + (b - 48) in
      let on = after_number n bs in
      let great = after_too_great bs in
      let ends = after_broken bs in
      let grows = value_grows n bs in
      let judged = number_too_great (value_after n bs) in
      grind (arith, nat_tests)

  after_digit : (b : ℕ) (bs : List ℕ) → kept_answer f (read (cond (is_digit b) (Number (b - 48)) Broken) bs) ≡ cond (plain (b ∷ bs)) (number_answer f (value (b ∷ bs))) (Err (BadField f))
  after_digit b bs =
      let on = after_number (b - 48) bs in
      let ends = after_broken bs in
      let same : is_digit b ≡ true → eqb (b - 48) 0 ≡ eqb b 48 = grind (arith, nat_tests) in
      let first : 10 * 0 + (b - 48) ≡ b - 48 = omega arith in
      grind (arith, nat_tests)

  pub after_blank : (bs : List ℕ) → kept_answer f (read Blank bs) ≡ field_answer f bs
  after_blank [] = refl
  after_blank (b ∷ bs) =
      let skipped = after_blank bs in
      let begun = after_digit b bs in
      grind (arith, nat_tests)
