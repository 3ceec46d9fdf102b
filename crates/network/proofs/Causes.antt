-- What the first cause makes of an edit. Assumes nothing.
use Rattle.std.proofs.Common.{◌≡◌, ℕ, Bool, true, false, cond, not, ◌&&◌, eqb, ◌≢◌, List, [], ◌∷◌, ◌++◌, is_some, Some, None, Ok, Err, Option, sym, refl, ap, ◌∙◌}
use Rattle.std.proofs.lemmas.Bool.{and_from, eqb-false, not-false}
use Rattle.network.specs.declared.types.Link.{Link}
use Rattle.network.specs.declared.types.Figures.{Figures}
use Rattle.network.specs.declared.types.EditRefusal.{EditRefusal}
use Rattle.network.specs.declared.types.EditRefusal.TheVariants.{UnknownFirst, UnknownSecond, SameAs, BadDelay, BadWidth}
use Rattle.network.specs.Rosters.{place}
use Rattle.network.specs.Limits.{in_limits}
use Rattle.network.specs.Causes.{first_cause, unknown, pair_causes, figures_causes}
use Rattle.network.specs.Edits.{answered, unless, Edits}
use Rattle.network.proofs.Options.{some_from, cond_none}

module _ {R : Type 0} where
  abbrev or_else : Option R → Option R → Option R
  or_else None o = o
  or_else (Some x) o = Some x

  or_cond : (b : Bool) (x : R) (o more : Option R) → cond b (Some x) (or_else o more) ≡ or_else (cond b (Some x) o) more
  or_cond true x o more = refl
  or_cond false x o more = refl

  first_append : (xs ys : List (R × Bool)) → first_cause (xs ++ ys) ≡ or_else (first_cause xs) (first_cause ys)
  first_append [] ys = refl
  first_append (c ∷ xs) ys = ap (cond c.1 (Some c.0)) (first_append xs ys) ∙ or_cond c.1 c.0 (first_cause xs) (first_cause ys)

  -- causes that do not apply leave the answer to those after them ..
  pub causes_pass : (xs ys : List (R × Bool)) → first_cause xs ≡ None → first_cause (xs ++ ys) ≡ first_cause ys
  causes_pass xs ys e = first_append xs ys ∙ ap (λ o. or_else o (first_cause ys)) e

  -- .. and one that does goes before those
  pub causes_stop : (xs ys : List (R × Bool)) (x : R) → first_cause xs ≡ Some x → first_cause (xs ++ ys) ≡ Some x
  causes_stop xs ys x e = first_append xs ys ∙ ap (λ o. or_else o (first_cause ys)) e

-- two ASes that no cause of a pair refuses
pub record Known (roster : List ℕ) (a b : ℕ) : Type 0 where
  pub first_place : ℕ
  pub second_place : ℕ
  pub first_at : place roster a ≡ Some first_place
  pub second_at : place roster b ≡ Some second_place
  pub apart : a ≢ b

pub pair_known : (roster : List ℕ) (a b : ℕ) → first_cause (pair_causes roster a b []) ≡ None → Known roster a b
pair_known roster a b e =
    let x = cond_none (unknown roster a) UnknownFirst (first_cause ((UnknownSecond, unknown roster b) ∷ ((SameAs, eqb a b) ∷ []))) e in
    let y = cond_none (unknown roster b) UnknownSecond (first_cause ((SameAs, eqb a b) ∷ [])) x.1 in
    let z = cond_none (eqb a b) SameAs None y.1 in
    let i = some_from (place roster a) (not-false (is_some (place roster a)) x.0) in
    let j = some_from (place roster b) (not-false (is_some (place roster b)) y.0) in
    record { first_place = i.0; second_place = j.0; first_at = i.1; second_at = j.1; apart = eqb-false a b z.0 }

-- figures that no cause refuses
pub figures_known : (f : Figures) → first_cause (figures_causes f []) ≡ None → (in_limits f.delay && in_limits f.width) ≡ true
figures_known f e =
    let x = cond_none (not (in_limits f.delay)) BadDelay (first_cause ((BadWidth, not (in_limits f.width)) ∷ [])) e in
    let y = cond_none (not (in_limits f.width)) BadWidth None x.1 in
    and_from (in_limits f.delay) (in_limits f.width) (not-false (in_limits f.delay) x.0) (not-false (in_limits f.width) y.0)

module _ (causes : List (EditRefusal × Bool)) (next : List Link) (roster : List ℕ) (limit : ℕ) where
  pub edit_refused : (book : List Link) (x : EditRefusal) → first_cause causes ≡ Some x → Edits causes next roster roster book book limit limit (Err x)
  edit_refused book x e =
      record { answer = sym (ap answered e); book_then = sym (ap (λ o. unless o book next) e); roster_then = refl; limit_then = refl }

  pub edit_accepted : (roster' : List ℕ) (book book' : List Link) → first_cause causes ≡ None → roster' ≡ roster → book' ≡ next → Edits causes next roster roster' book book' limit limit (Ok tt)
  edit_accepted roster' book book' e r b =
      record { answer = sym (ap answered e); book_then = b ∙ sym (ap (λ o. unless o book next) e); roster_then = r; limit_then = refl }
