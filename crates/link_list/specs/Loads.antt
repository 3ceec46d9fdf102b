-- What a load answers, and what it leaves. Assumes nothing.
use Rattle.std.specs.Prelude.{◌≡◌, ℕ, ◌+◌, Bool, List, [], ◌∷◌, length, drop, Some, None, Ok, Err, Result}
use Rattle.network.specs.declared.types.Link.{Link}
use Rattle.network.specs.declared.types.Figures.{Figures}
use Rattle.network.specs.Books.{added, entered, relation_of}
use Rattle.network.specs.Causes.{first_cause, link_causes}
use Rattle.table.specs.declared.types.Entry.{Entry}
use Rattle.table.specs.Memory.{small}
use Rattle.board.specs.declared.types.BoardRefusal.{BoardRefusal}
use Rattle.board.specs.declared.types.BoardRefusal.TheVariants.{TableTooSmall}
use Rattle.board.specs.Edits.{told, cleared}
use Rattle.link_text.specs.declared.types.TextFault.{TextFault}
use Rattle.link_text.specs.declared.types.Line.{Line}
use Rattle.link_text.specs.Answers.{line_answer}
use Rattle.link_list.specs.declared.types.Cause.{Cause}
use Rattle.link_list.specs.declared.types.Cause.TheVariants.{Text, Board}
use Rattle.link_list.specs.declared.types.Fault.{Fault}

abbrev pub figures_of : Line → Figures
figures_of l = record { delay = l.delay; width = l.width }

-- the book with the link of a line
abbrev pub with_line : List Link → Line → List Link
with_line book l = added book (entered l.first l.second (relation_of l.relation) (figures_of l))

-- why the link call of a line is refused
abbrev pub line_causes : {C : Type 0} → List ℕ → ℕ → List (Entry C) → List Link → List ℕ → Line → List (BoardRefusal × Bool)
line_causes roster limit entries book marks l =
    (TableTooSmall, small (length roster) entries marks) ∷ told (link_causes roster book limit l.first l.second l.relation (figures_of l))

abbrev pub fault : Cause → ℕ → Fault
fault c n = record { cause = c; line = n }

-- What the link call of the next line came to: `left` is what is left of the text before it. A prime marks what stands afterwards.
pub data Enters {C : Type 0} (roster : List ℕ) (limit : ℕ) (entries : List (Entry C)) (left left' : List ℕ) (book book' : List Link) (marks marks' : List ℕ) (r : Result (Unit {0}) Cause) : Type 0 where
  line_malformed : (t : TextFault) → line_answer left ≡ Err t → book' ≡ book → marks' ≡ marks → r ≡ Err (Text t) → Enters roster limit entries left left' book book' marks marks' r
  line_refused : (l : Line) (x : BoardRefusal) → line_answer left ≡ Ok l → first_cause (line_causes roster limit entries book marks l) ≡ Some x → book' ≡ book → marks' ≡ marks → r ≡ Err (Board x) → Enters roster limit entries left left' book book' marks marks' r
  line_entered : (l : Line) → line_answer left ≡ Ok l → first_cause (line_causes roster limit entries book marks l) ≡ None → book' ≡ with_line book l → marks' ≡ cleared (length roster) marks → left' ≡ drop 41 left → r ≡ Ok tt → Enters roster limit entries left left' book book' marks marks' r

-- A load of what is left of a text, after n lines, over this book and these marks: in the end it answers r, and the book and the marks are the primed ones.
pub data Loads {C : Type 0} (roster : List ℕ) (limit : ℕ) (entries : List (Entry C)) (book' : List Link) (marks' : List ℕ) (r : Result ℕ Fault) : ℕ → List ℕ → List Link → List ℕ → Type 0 where
  -- all lines are entered
  done : (n : ℕ) → r ≡ Ok n → Loads roster limit entries book' marks' r n [] book' marks'
  -- the form of a line is at fault
  malformed : (n : ℕ) (b : ℕ) (left : List ℕ) (t : TextFault) → line_answer (b ∷ left) ≡ Err t → r ≡ Err (fault (Text t) (n + 1)) → Loads roster limit entries book' marks' r n (b ∷ left) book' marks'
  -- a line's link call is refused
  refused : (n : ℕ) (left : List ℕ) (l : Line) (x : BoardRefusal) → line_answer left ≡ Ok l → first_cause (line_causes roster limit entries book' marks' l) ≡ Some x → r ≡ Err (fault (Board x) (n + 1)) → Loads roster limit entries book' marks' r n left book' marks'
  -- a line is entered, and the load goes on
  enters : (n : ℕ) (left : List ℕ) (l : Line) (book : List Link) (marks : List ℕ) → line_answer left ≡ Ok l → first_cause (line_causes roster limit entries book marks l) ≡ None → Loads roster limit entries book' marks' r (n + 1) (drop 41 left) (with_line book l) (cleared (length roster) marks) → Loads roster limit entries book' marks' r n left book marks
