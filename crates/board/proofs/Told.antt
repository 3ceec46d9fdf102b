-- The first cause that the board tells, from the store's answer. Assumes nothing.
use Rattle.std.proofs.Common.{◌≡◌, ℕ, Bool, true, false, cond, List, [], ◌∷◌, length, Some, None, Option, Result, sym, refl, ap, ◌∙◌, ⊎_elim}
use Rattle.std.proofs.lemmas.Bool.{cond-true, cond-false, cases_Bool}
use Rattle.network.specs.declared.types.EditRefusal.{EditRefusal}
use Rattle.network.specs.declared.types.Link.{Link}
use Rattle.network.specs.Causes.{first_cause}
use Rattle.network.specs.Edits.{answered, unless, Edits}
use Rattle.board.specs.declared.types.BoardRefusal.{BoardRefusal}
use Rattle.board.specs.declared.types.BoardRefusal.TheVariants.{TableTooSmall, Edit}
use Rattle.board.specs.Edits.{told, cleared, passed, marks_at, Passes, BoardEdits}
use Rattle.table.specs.declared.types.Entry.{Entry}
use Rattle.table.specs.Memory.{small}

abbrev pub as_edit : Option EditRefusal → Option BoardRefusal
as_edit None = None
as_edit (Some x) = Some (Edit x)

pub first_told : (cs : List (EditRefusal × Bool)) → first_cause (told cs) ≡ as_edit (first_cause cs)
first_told [] = refl
first_told (c ∷ cs) = go c.1 (first_told cs)
  where
    go : (b : Bool) → first_cause (told cs) ≡ as_edit (first_cause cs) → cond b (Some (Edit c.0)) (first_cause (told cs)) ≡ as_edit (cond b (Some c.0) (first_cause cs))
    go true e = refl
    go false e = e

all_causes : (cs : List (EditRefusal × Bool)) (b : Bool) → b ≡ false → first_cause ((TableTooSmall, b) ∷ told cs) ≡ as_edit (first_cause cs)
all_causes cs b e = cond-false b (Some TableTooSmall) (first_cause (told cs)) e ∙ first_told cs

-- what follows from the store's cause follows from the board's
passed_on : (o : Option EditRefusal) → passed (answered o) ≡ answered (as_edit o)
passed_on None = refl
passed_on (Some x) = refl

marks_told : (n : ℕ) (marks : List ℕ) (o : Option EditRefusal) → marks_at n marks (answered o) ≡ unless (as_edit o) marks (cleared n marks)
marks_told n marks None = refl
marks_told n marks (Some x) = refl

book_told : (book next : List Link) (o : Option EditRefusal) → unless o book next ≡ unless (as_edit o) book next
book_told book next None = refl
book_told book next (Some x) = refl

-- An edit that the board passes on is the board's edit, where each answer of the store to it is the store's edit.
module _ {C S : Type 0} {causes : List (EditRefusal × Bool)} {next : List Link} {roster roster' : List ℕ} {book book' : List Link} {limit limit' : ℕ} {entries entries' : List (Entry C)} {marks marks' : List ℕ} {s s' : S} {Gives : Result (Unit {0}) EditRefusal → S → Type 0} {r : Result (Unit {0}) BoardRefusal} where
  pub board_edits : (s' ≡ s → (roster' ≡ roster) × (book' ≡ book) × (limit' ≡ limit)) → ((x : Result (Unit {0}) EditRefusal) → Gives x s' → Edits causes next roster roster' book book' limit limit' x) →
      Passes (length roster) s s' Gives entries entries' marks marks' r →
      BoardEdits ((TableTooSmall, small (length roster) entries marks) ∷ told causes) next roster roster' book book' limit limit' entries entries' marks marks' r
  board_edits same edits p =
      let n = length roster in
      let size : Bool = small n entries marks in
      let cause = first_cause causes in
      let after : Option BoardRefusal → List Link = λ o. unless o book next in
      let marked : Option BoardRefusal → List ℕ = λ o. unless o marks (cleared n marks) in
      ⊎_elim
      (λ is_small.
      let refused = p.refused is_small in
      let kept = same refused.1 in
      let t : first_cause ((TableTooSmall, size) ∷ told causes) ≡ Some TableTooSmall = cond-true size (Some TableTooSmall) (first_cause (told causes)) is_small in
      record {
        answer = refused.0 ∙ sym (ap answered t);
        book_then = kept.1 ∙ sym (ap after t);
        roster_then = kept.0;
        limit_then = kept.2;
        marks_then = refused.2 ∙ sym (ap marked t);
        entries_then = p.entries_then;
      })
      (λ is_large.
      let on = p.passed_on is_large in
      let e = edits on.0 on.1.gives in
      let t : first_cause ((TableTooSmall, size) ∷ told causes) ≡ as_edit cause = all_causes causes size is_large in
      record {
        answer = on.1.answer ∙ (ap passed e.answer ∙ (passed_on cause ∙ sym (ap answered t)));
        book_then = e.book_then ∙ (book_told book next cause ∙ sym (ap after t));
        roster_then = e.roster_then;
        limit_then = e.limit_then;
        marks_then = on.1.marks_then ∙ (ap (marks_at n marks) e.answer ∙ (marks_told n marks cause ∙ sym (ap marked t)));
        entries_then = p.entries_then;
      })
      (cases_Bool size)
