-- What the opening of a board and its edits answer, and what they leave. Assumes nothing.
use Rattle.std.specs.Prelude.{◌≡◌, ℕ, min, max, Bool, true, false, List, [], ◌∷◌, ◌++◌, length, drop, replicate, Ok, Err, Result}
use Rattle.network.specs.declared.types.Link.{Link}
use Rattle.network.specs.declared.types.Figures.{Figures}
use Rattle.network.specs.declared.types.EditRefusal.{EditRefusal}
use Rattle.network.specs.Books.{added, recosted, without, entered, relation_of}
use Rattle.network.specs.Causes.{first_cause, link_causes, recost_causes, unlink_causes}
use Rattle.network.specs.Edits.{answered, unless}
use Rattle.table.specs.declared.types.Entry.{Entry}
use Rattle.table.specs.Memory.{small}
use Rattle.board.specs.declared.types.BoardRefusal.{BoardRefusal}
use Rattle.board.specs.declared.types.BoardRefusal.TheVariants.{TableTooSmall, Edit}

-- the causes of an edit, told by the board
abbrev pub told : List (EditRefusal × Bool) → List (BoardRefusal × Bool)
told [] = []
told (c ∷ cs) = (Edit c.0, c.1) ∷ told cs

-- the first n marks at 0, the others as they were
abbrev pub cleared : ℕ → List ℕ → List ℕ
cleared n marks = replicate n 0 ++ drop n marks

-- A board is opened over n ASes; a prime marks what stands afterwards.
pub record Opens {C : Type 0} (n : ℕ) (entries entries' : List (Entry C)) (marks marks' : List ℕ) (r : Result (Unit {0}) BoardRefusal) : Type 0 where
  pub answer : r ≡ answered (first_cause ((TableTooSmall, small n entries marks) ∷ []))
  pub marks_then : marks' ≡ unless (first_cause ((TableTooSmall, small n entries marks) ∷ [])) marks (cleared n marks)
  pub entries_then : entries' ≡ entries

-- what the board answers where the store answered r
abbrev pub passed : Result (Unit {0}) EditRefusal → Result (Unit {0}) BoardRefusal
passed (Ok x) = Ok x
passed (Err x) = Err (Edit x)

-- the marks of n ASes where the store answered r: an accepted edit leaves no destination settled
abbrev pub marks_at : ℕ → List ℕ → Result (Unit {0}) EditRefusal → List ℕ
marks_at n marks (Ok x) = cleared n marks
marks_at n marks (Err x) = marks

-- The store answered r to an edit that was passed on to it.
pub record Passed (n : ℕ) (Gives : Result (Unit {0}) EditRefusal → Type 0) (marks marks' : List ℕ) (r : Result (Unit {0}) BoardRefusal) (given : Result (Unit {0}) EditRefusal) : Type 0 where
  pub gives : Gives given
  pub answer : r ≡ passed given
  pub marks_then : marks' ≡ marks_at n marks given

-- An edit of a store of n ASes, passed on where the table memory is large enough. `Gives r s` says that the edit may answer r and leave the store s.
pub record Passes {C S : Type 0} (n : ℕ) (s s' : S) (Gives : Result (Unit {0}) EditRefusal → S → Type 0) (entries entries' : List (Entry C)) (marks marks' : List ℕ) (r : Result (Unit {0}) BoardRefusal) : Type 0 where
  pub refused : small n entries marks ≡ true → (r ≡ Err TableTooSmall) × (s' ≡ s) × (marks' ≡ marks)
  pub passed_on : small n entries marks ≡ false → (given : Result (Unit {0}) EditRefusal) × Passed n (λ x. Gives x s') marks marks' r given
  pub entries_then : entries' ≡ entries

-- An edit with these causes of refusal, that makes the book `next` and leaves no destination settled.
pub record BoardEdits {C : Type 0} (causes : List (BoardRefusal × Bool)) (next : List Link) (roster roster' : List ℕ) (book book' : List Link) (limit limit' : ℕ) (entries entries' : List (Entry C)) (marks marks' : List ℕ) (r : Result (Unit {0}) BoardRefusal) : Type 0 where
  pub answer : r ≡ answered (first_cause causes)
  pub book_then : book' ≡ unless (first_cause causes) book next
  pub roster_then : roster' ≡ roster
  pub limit_then : limit' ≡ limit
  pub marks_then : marks' ≡ unless (first_cause causes) marks (cleared (length roster) marks)
  pub entries_then : entries' ≡ entries

abbrev pub BoardLinks : {C : Type 0} → ℕ → ℕ → ℕ → Figures → List ℕ → List ℕ → List Link → List Link → ℕ → ℕ → List (Entry C) → List (Entry C) → List ℕ → List ℕ → Result (Unit {0}) BoardRefusal → Type 0
BoardLinks a b relation f roster roster' book book' limit limit' entries entries' marks marks' r =
    BoardEdits ((TableTooSmall, small (length roster) entries marks) ∷ told (link_causes roster book limit a b relation f)) (added book (entered a b (relation_of relation) f)) roster roster' book book' limit limit' entries entries' marks marks' r

abbrev pub BoardRecosts : {C : Type 0} → ℕ → ℕ → Figures → List ℕ → List ℕ → List Link → List Link → ℕ → ℕ → List (Entry C) → List (Entry C) → List ℕ → List ℕ → Result (Unit {0}) BoardRefusal → Type 0
BoardRecosts a b f roster roster' book book' limit limit' entries entries' marks marks' r =
    BoardEdits ((TableTooSmall, small (length roster) entries marks) ∷ told (recost_causes roster book a b f)) (recosted book (min a b) (max a b) f) roster roster' book book' limit limit' entries entries' marks marks' r

abbrev pub BoardUnlinks : {C : Type 0} → ℕ → ℕ → List ℕ → List ℕ → List Link → List Link → ℕ → ℕ → List (Entry C) → List (Entry C) → List ℕ → List ℕ → Result (Unit {0}) BoardRefusal → Type 0
BoardUnlinks a b roster roster' book book' limit limit' entries entries' marks marks' r =
    BoardEdits ((TableTooSmall, small (length roster) entries marks) ∷ told (unlink_causes roster book a b)) (without book (min a b) (max a b)) roster roster' book book' limit limit' entries entries' marks marks' r
