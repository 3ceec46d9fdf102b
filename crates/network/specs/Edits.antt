-- What an edit answers, and the book that it leaves. Assumes nothing.
use Rattle.std.specs.Prelude.{◌≡◌, ℕ, min, max, Bool, List, Some, None, Ok, Err, Option, Result}
use Rattle.network.specs.declared.types.Link.{Link}
use Rattle.network.specs.declared.types.Figures.{Figures}
use Rattle.network.specs.declared.types.EditRefusal.{EditRefusal}
use Rattle.network.specs.Books.{added, recosted, without, entered, relation_of}
use Rattle.network.specs.Causes.{first_cause, link_causes, recost_causes, unlink_causes}

-- accepted, or refused for a cause
abbrev pub answered : {R : Type 0} → Option R → Result (Unit {0}) R
answered None = Ok tt
answered (Some x) = Err x

-- `next` if there is no cause to refuse, else what was
abbrev pub unless : {R X : Type 0} → Option R → X → X → X
unless None was next = next
unless (Some x) was next = was

-- An edit with these causes of refusal, that makes the book `next`; a prime marks what stands afterwards.
pub record Edits (causes : List (EditRefusal × Bool)) (next : List Link) (roster roster' : List ℕ) (book book' : List Link) (limit limit' : ℕ) (r : Result (Unit {0}) EditRefusal) : Type 0 where
  pub answer : r ≡ answered (first_cause causes)
  pub book_then : book' ≡ unless (first_cause causes) book next
  pub roster_then : roster' ≡ roster
  pub limit_then : limit' ≡ limit

abbrev pub Links : ℕ → ℕ → ℕ → Figures → List ℕ → List ℕ → List Link → List Link → ℕ → ℕ → Result (Unit {0}) EditRefusal → Type 0
Links a b relation f roster roster' book book' limit limit' r =
    Edits (link_causes roster book limit a b relation f) (added book (entered a b (relation_of relation) f)) roster roster' book book' limit limit' r

abbrev pub Recosts : ℕ → ℕ → Figures → List ℕ → List ℕ → List Link → List Link → ℕ → ℕ → Result (Unit {0}) EditRefusal → Type 0
Recosts a b f roster roster' book book' limit limit' r =
    Edits (recost_causes roster book a b f) (recosted book (min a b) (max a b) f) roster roster' book book' limit limit' r

abbrev pub Unlinks : ℕ → ℕ → List ℕ → List ℕ → List Link → List Link → ℕ → ℕ → Result (Unit {0}) EditRefusal → Type 0
Unlinks a b roster roster' book book' limit limit' r =
    Edits (unlink_causes roster book a b) (without book (min a b) (max a b)) roster roster' book book' limit limit' r
