-- How much text a line takes. Assumes nothing.
use Rattle.std.proofs.Common.{◌≡◌, ℕ, ◌+◌, ◌≤◌, Bool, true, false, cond, not, eqb, ltb, List, [], ◌∷◌, length, get_or, drop, Ok, Err, refl, ap, arith, length-drop}
use Rattle.std.proofs.lemmas.Bool.{or_parts, ltb-false, both_ways}
use Rattle.link_text.specs.declared.types.TextFault.TheVariants.{BrokenLine}
use Rattle.link_text.specs.Numerals.{none}
use Rattle.link_text.specs.Answers.{broken, start_answer}

unbroken : (b : Bool) (x : Unit {0}) → cond b (Err BrokenLine) (Ok tt) ≡ Ok x → b ≡ false
unbroken true x e = cc
unbroken false x e = refl

-- a line that begins has 41 bytes
pub long_line : (bs : List ℕ) (x : Unit {0}) → start_answer bs ≡ Ok x → 41 ≤ length bs
long_line bs x e = ltb-false (length bs) 41 (or_parts (ltb (length bs) 41) (not (eqb (get_or bs 40 0) 10)) (unbroken (broken bs) x e)).0

-- so much is left behind it
pub shorter : (bs rest : List ℕ) → 41 ≤ length bs → rest ≡ drop 41 bs → length rest + 41 ≡ length bs
shorter bs rest h e = omega (arith, ap length e, length-drop 41 bs)

pub no_more : (bs : List ℕ) → none bs ≡ true → bs ≡ []
no_more [] e = refl
no_more (b ∷ bs) e = absurd (both_ways false refl e)
