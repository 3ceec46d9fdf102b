-- A line that is read field by field: how far the reader is, and what it still answers. Assumes nothing.
use Rattle.std.proofs.Common.{◌≡◌, ℕ, ◌+◌, ◌-◌, Bool, true, false, cond, ◌&&◌, ◌||◌, eqb, ltb, List, take, drop, IsErrAnd, Ok, Err, Result, sym, refl, ap, ◌∙◌, subst, arith}
use Rattle.std.proofs.lemmas.List.{drop-drop}
use Rattle.std.proofs.lemmas.Result.{err_from_is_err_and}
use Rattle.link_text.specs.declared.types.Field.{Field}
use Rattle.link_text.specs.declared.types.Field.TheVariants.{First, Second, Relation, Delay, Width}
use Rattle.link_text.specs.declared.types.TextFault.{TextFault}
use Rattle.link_text.specs.declared.types.TextFault.TheVariants.{BadField, BadNumber}
use Rattle.link_text.specs.declared.types.Line.{Line}
use Rattle.link_text.specs.declared.reader.Reader.{Reader}
use Rattle.link_text.specs.Fields.{column_of, width_of, bytes_of, end_of, names_as}
use Rattle.link_text.specs.Numerals.{digits, plain, value, greatest}
use Rattle.link_text.specs.Answers.{field_answer, start_answer, field_of, and_then, line_answer, line_reach}
use Rattle.link_text.specs.Left.{left, Moved}

-- q is n bytes into the line at r, and what is left of the line answers rest
pub record Stage (r q : Reader) (n : ℕ) (rest : Result Line TextFault) : Type 0 where
  pub moved : Moved n r q
  pub answer : line_answer (left r) ≡ rest

-- the reader s has given the answer a to the line at r
pub record Answered (r s : Reader) (a : Result Line TextFault) : Type 0 where
  pub answer : a ≡ line_answer (left r)
  pub moved : Moved (line_reach a) r s

module _ (f : Field) (n : ℕ) (e : TextFault) where
  -- a fault of a field names that field
  reach_by : (t u : Bool) → cond t (cond u (Err (BadNumber f)) (Ok n)) (Err (BadField f)) ≡ Err e → line_reach (Err e) ≡ end_of f
  reach_by true true h = let same : e ≡ BadNumber f = cc in ap (λ x. line_reach (Err x)) same
  reach_by true false h = let z : ◌≡◌ {A = ℕ} 0 1 = cc in absurd (omega arith)
  reach_by false u h = let same : e ≡ BadField f = cc in ap (λ x. line_reach (Err x)) same

reach_of : (f : Field) (bs : List ℕ) (e : TextFault) → field_answer f bs ≡ Err e → line_reach (Err e) ≡ end_of f
reach_of f bs e h = reach_by f (value (digits bs)) e (plain (digits bs)) (ltb greatest (value (digits bs)) || (names_as f && eqb (value (digits bs)) 0)) h

-- what a line answers from each field on, after the numbers of the fields before it
abbrev pub said : ℕ → ℕ → ℕ → ℕ → ℕ → Result Line TextFault
said a b r d w = Ok (record { first = a; second = b; relation = r; delay = d; width = w })

abbrev pub from_width : List ℕ → ℕ → ℕ → ℕ → ℕ → Result Line TextFault
from_width bs a b r d = and_then (field_of bs Width) (said a b r d)

abbrev pub from_delay : List ℕ → ℕ → ℕ → ℕ → Result Line TextFault
from_delay bs a b r = and_then (field_of bs Delay) (from_width bs a b r)

abbrev pub from_relation : List ℕ → ℕ → ℕ → Result Line TextFault
from_relation bs a b = and_then (field_of bs Relation) (from_delay bs a b)

abbrev pub from_second : List ℕ → ℕ → Result Line TextFault
from_second bs a = and_then (field_of bs Second) (from_relation bs a)

abbrev pub from_first : List ℕ → Result Line TextFault
from_first bs = and_then (field_of bs First) (from_second bs)

module _ (r : Reader) where
  moved_on : (n m : ℕ) (q s : Reader) → Moved n r q → Moved m q s → Moved (n + m) r s
  moved_on n m q s a b = (b.0 ∙ a.0, b.1 ∙ ap (drop m) a.1 ∙ drop-drop m n (left r))

  -- the field that is read next is the line's
  is_field : (f : Field) (q : Reader) (x : Result ℕ TextFault) → Moved (column_of f - 1) r q → x ≡ field_answer f (take (width_of f) (left q)) → field_of (left r) f ≡ x
  is_field f q x m e = sym (e ∙ ap (λ l. field_answer f (take (width_of f) l)) m.1)

  pub begins : (u : Unit {0}) → Ok u ≡ start_answer (left r) → Stage r r 0 (from_first (left r))
  begins u e = record { moved = (refl, refl); answer = ap (λ t. and_then t (λ _. from_first (left r))) (sym e) }

  module _ (f : Field) (q s : Reader) (k : ℕ → Result Line TextFault) (at : Stage r q (column_of f - 1) (and_then (field_of (left r) f) k)) (m : Moved (width_of f) q s) where
    pub reads : (x : ℕ) → Ok x ≡ field_answer f (take (width_of f) (left q)) → Stage r s (end_of f) (k x)
    reads x e = record {
      moved = moved_on (column_of f - 1) (width_of f) q s at.moved m;
      answer = at.answer ∙ ap (λ t. and_then t k) (is_field f q (Ok x) at.moved e);
    }

    pub stops : (e : TextFault) → Err e ≡ field_answer f (take (width_of f) (left q)) → (a : Result Line TextFault) → IsErrAnd a (λ y. y ≡ e) → Answered r s a
    stops e h a by =
        let p = err_from_is_err_and a by in
        let is : a ≡ Err e = p.1 ∙ ap (λ y. Err y) p.2 in
        let faulty = is_field f q (Err e) at.moved h in
        let reach : line_reach a ≡ end_of f = ap line_reach is ∙ reach_of f (bytes_of f (left r)) e faulty in
        record {
          answer = is ∙ sym (at.answer ∙ ap (λ t. and_then t k) faulty);
          moved = subst (λ (n : ℕ). Moved n r s) (sym reach) (moved_on (column_of f - 1) (width_of f) q s at.moved m);
        }

  pub ends : (q s : Reader) (a b t d w : ℕ) → Stage r q 40 (said a b t d w) → Moved 1 q s → Answered r s (said a b t d w)
  ends q s a b t d w at m = record { answer = sym at.answer; moved = moved_on 40 1 q s at.moved m }
