-- What the board's answer to a line's link call says of the load. Assumes nothing.
use Rattle.std.proofs.Common.{◌≡◌, ℕ, List, length, drop, Ok, Err, Result, refl, ap, ◌∙◌}
use Rattle.network.specs.declared.types.Link.{Link}
use Rattle.network.specs.Edits.{unless}
use Rattle.network.proofs.Answered.{cause_of, no_cause_of}
use Rattle.table.specs.declared.types.Entry.{Entry}
use Rattle.board.specs.declared.types.BoardRefusal.{BoardRefusal}
use Rattle.board.specs.Edits.{cleared, BoardLinks}
use Rattle.network.specs.Causes.{first_cause}
use Rattle.link_text.specs.declared.types.Line.{Line}
use Rattle.link_text.specs.Answers.{line_answer}
use Rattle.link_list.specs.declared.types.Cause.TheVariants.{Board}
use Rattle.link_list.specs.Loads.{figures_of, with_line, line_causes, Enters, line_refused, line_entered}

module _ {C : Type 0} (l : Line) (left left' : List ℕ) (reads : line_answer left ≡ Ok l) (roster roster' : List ℕ) (book book' : List Link) (limit limit' : ℕ) (entries entries' : List (Entry C)) (marks marks' : List ℕ) where
  abbrev Answers : Result (Unit {0}) BoardRefusal → Type 0
  Answers = BoardLinks l.first l.second l.relation (figures_of l) roster roster' book book' limit limit' entries entries' marks marks'

  pub call_refused : (x : BoardRefusal) → Answers (Err x) → Enters roster limit entries left left' book book' marks marks' (Err (Board x))
  call_refused x e =
      let cause = cause_of (first_cause (line_causes roster limit entries book marks l)) x e.answer in
      line_refused l x reads cause (e.book_then ∙ ap (λ o. unless o book (with_line book l)) cause) (e.marks_then ∙ ap (λ o. unless o marks (cleared (length roster) marks)) cause) refl

  pub call_accepted : Answers (Ok tt) → left' ≡ drop 41 left → Enters roster limit entries left left' book book' marks marks' (Ok tt)
  call_accepted e moved =
      let none = no_cause_of (first_cause (line_causes roster limit entries book marks l)) e.answer in
      line_entered l reads none (e.book_then ∙ ap (λ o. unless o book (with_line book l)) none) (e.marks_then ∙ ap (λ o. unless o marks (cleared (length roster) marks)) none) moved refl
