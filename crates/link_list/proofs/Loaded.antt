-- One line more of a load. Assumes nothing.
use Rattle.std.proofs.Common.{◌≡◌, ℕ, ◌+◌, ◌≤◌, true, false, List, [], ◌∷◌, length, drop, is_ok, Ok, Err, Result, sym, refl, ap, ◌∙◌, subst, arith}
use Rattle.std.specs.Result.{MatchResult}
use Rattle.std.proofs.lemmas.Bool.{both_ways}
use Rattle.network.specs.declared.types.Link.{Link}
use Rattle.network.specs.Causes.{first_cause}
use Rattle.table.specs.declared.types.Entry.{Entry}
use Rattle.link_text.specs.declared.types.Line.{Line}
use Rattle.link_text.specs.declared.types.TextFault.{TextFault}
use Rattle.link_text.specs.Numerals.{none}
use Rattle.link_text.proofs.Lines.{long_line, shorter}
use Rattle.link_text.specs.Answers.{line_answer, start_answer, and_then}
use Rattle.link_list.specs.declared.types.Cause.{Cause}
use Rattle.link_list.specs.declared.types.Fault.{Fault}
use Rattle.link_list.specs.Loads.{fault, with_line, line_causes, Enters, line_malformed, line_refused, line_entered, Loads, malformed, refused, enters}

first_ok : {A B : Type 0} (o : Result A TextFault) (f : A → Result B TextFault) (y : B) → and_then o f ≡ Ok y → (x : A) × (o ≡ Ok x)
first_ok (Ok x) f y e = (x, refl)
first_ok (Err t) f y e = let z : ◌≡◌ {A = ℕ} 0 1 = cc in absurd (omega arith)

read_long : (left : List ℕ) (l : Line) → line_answer left ≡ Ok l → 41 ≤ length left
read_long left l e = let start = first_ok (start_answer left) _ l e in long_line left start.0 start.1

module _ {C : Type 0} {roster : List ℕ} {limit : ℕ} {entries : List (Entry C)} where
  -- the terms of a call do not move from line to line
  pub same_terms : {roster₁ : List ℕ} {limit₁ : ℕ} {entries₁ : List (Entry C)} → roster₁ ≡ roster → limit₁ ≡ limit → entries₁ ≡ entries →
      {left left' : List ℕ} {book book' : List Link} {marks marks' : List ℕ} {r : Result (Unit {0}) Cause} → Enters roster₁ limit₁ entries₁ left left' book book' marks marks' r → Enters roster limit entries left left' book book' marks marks' r
  same_terms {roster₁ = roster₁} {limit₁ = limit₁} {entries₁ = entries₁} p q s {left = left} {left' = left'} {book = book} {book' = book'} {marks = marks} {marks' = marks'} {r = r} e =
      subst (λ x. Enters roster limit x left left' book book' marks marks' r) s
      (subst (λ x. Enters roster x entries₁ left left' book book' marks marks' r) q
      (subst (λ x. Enters x limit₁ entries₁ left left' book book' marks marks' r) p e))

  -- the load stops at a fault y, which its cause and the line make
  pub stops : (n : ℕ) {left left' : List ℕ} {book book' : List Link} {marks marks' : List ℕ} {r : Result (Unit {0}) Cause} (y : Fault) → none left ≡ false → Enters roster limit entries left left' book book' marks marks' r → {P : Cause → Type 0} → MatchResult r (λ u. ◌≡◌ {A = Result (Unit {0}) Fault} (Err y) (Ok u)) P → ((c : Cause) → P c → y ≡ fault c (n + 1)) → Loads roster limit entries book' marks' (Err y) n left book marks
  stops n {r = Ok u} y some e m by = let z : ◌≡◌ {A = ℕ} 0 1 = cc in absurd (omega arith)
  stops n {left = []} {r = Err c} y some e m by = absurd (both_ways true some refl)
  stops n {left = b ∷ left} {left' = left'} {book = book} {book' = book'} {marks = marks} {marks' = marks'} {r = Err c} y some e m by = at_once e
    where
      moved : book' ≡ book → marks' ≡ marks → Loads roster limit entries book' marks' (Err y) n (b ∷ left) book' marks' → Loads roster limit entries book' marks' (Err y) n (b ∷ left) book marks
      moved p q k = subst (λ x. Loads roster limit entries book' marks' (Err y) n (b ∷ left) book x) q (subst (λ x. Loads roster limit entries book' marks' (Err y) n (b ∷ left) x marks') p k)

      -- the answer, where the cause of the fault is x
      at_cause : (x : Cause) → ◌≡◌ {A = Result (Unit {0}) Cause} (Err c) (Err x) → ◌≡◌ {A = Result ℕ Fault} (Err y) (Err (fault x (n + 1)))
      at_cause x is = ap Err (by c m ∙ ap (λ z. fault z (n + 1)) (cc is))

      at_once : Enters roster limit entries (b ∷ left) left' book book' marks marks' (Err c) → Loads roster limit entries book' marks' (Err y) n (b ∷ left) book marks
      at_once (line_malformed t reads p q is) = moved p q (malformed n b left t reads (at_cause _ is))
      at_once (line_refused l x reads cause p q is) =
          let same = ap (λ z. first_cause (line_causes roster limit entries z marks' l)) p ∙ (ap (λ z. first_cause (line_causes roster limit entries book z l)) q ∙ cause) in
          moved p q (refused n (b ∷ left) l x reads same (at_cause _ is))
      at_once (line_entered l reads free p q m is) = let z : ◌≡◌ {A = ℕ} 0 1 = cc in absurd (omega arith)

  -- .. or goes on with the next line, and what is left is shorter by 41 bytes
  pub goes_on : (n : ℕ) {left left' : List ℕ} {book book' : List Link} {marks marks' : List ℕ} {r : Result (Unit {0}) Cause} → Enters roster limit entries left left' book book' marks marks' r → true ≡ is_ok r →
      (length left' + 41 ≡ length left) × ((book'' : List Link) (marks'' : List ℕ) (all : Result ℕ Fault) → Loads roster limit entries book'' marks'' all (n + 1) left' book' marks' → Loads roster limit entries book'' marks'' all n left book marks)
  goes_on n {r = r} (line_malformed t reads p q is) ok = absurd (both_ways (is_ok r) (ap is_ok is) (sym ok))
  goes_on n {r = r} (line_refused l x reads cause p q is) ok = absurd (both_ways (is_ok r) (ap is_ok is) (sym ok))
  goes_on n {left = left} {left' = left'} {book = book} {book' = book'} {marks = marks} {marks' = marks'} (line_entered l reads free p q m is) ok = (
    shorter left left' (read_long left l reads) m,
    λ book'' marks'' all k.
        enters n left l book marks reads free
        (subst (λ x. Loads roster limit entries book'' marks'' all (n + 1) (drop 41 left) (with_line book l) x) q
        (subst (λ x. Loads roster limit entries book'' marks'' all (n + 1) (drop 41 left) x marks') p
        (subst (λ x. Loads roster limit entries book'' marks'' all (n + 1) x book' marks') m k))),
  )
