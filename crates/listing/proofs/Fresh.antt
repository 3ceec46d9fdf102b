-- A load leaves no destination settled, and memory that was large enough is so still. Assumes nothing.
use Rattle.std.proofs.Common.{◌≡◌, ℕ, ◌≤◌, false, List, [], length, get_or, Result, sym, refl, ap, ◌∙◌, subst, arith}
use Rattle.std.proofs.lemmas.Bool.{ne_eqb}
use Rattle.std.proofs.lemmas.Bool.Decides.{nat_tests}
use Rattle.std.proofs.lemmas.Grind.{common_steps}
use Rattle.network.specs.declared.types.Link.{Link}
use Rattle.measure.specs.Delay.{delay}
use Rattle.table.specs.declared.types.Entry.{Entry}
use Rattle.table.specs.Memory.{small}
use Rattle.board.specs.Edits.{cleared}
use Rattle.routes.specs.Routes.{Holds}
use Rattle.link_list.specs.declared.types.Fault.{Fault}
use Rattle.link_list.specs.Loads.{Loads}
use Rattle.listing.specs.Listings.{EntersAll}

-- no destination is marked
abbrev pub Unmarked : List ℕ → Type 0
Unmarked marks = (j : ℕ) → get_or marks j 0 ≡ 0

cleared_unmarked : (n : ℕ) (marks : List ℕ) → Unmarked marks → Unmarked (cleared n marks)
cleared_unmarked n marks none j = grind (arith, common_steps)

cleared_long : (n : ℕ) (marks : List ℕ) → n ≤ length marks → length (cleared n marks) ≡ length marks
cleared_long n marks h = grind (arith, common_steps)

module _ {C : Type 0} (roster : List ℕ) (limit : ℕ) (entries : List (Entry C)) (book' : List Link) (marks' : List ℕ) (r : Result ℕ Fault) where
  load_unmarked : (n : ℕ) (left : List ℕ) (book : List Link) (marks : List ℕ) → Loads roster limit entries book' marks' r n left book marks → Unmarked marks → Unmarked marks'
  load_unmarked n left book marks (Loads.done k e) none = none
  load_unmarked n left book marks (Loads.malformed k b rest t e f) none = none
  load_unmarked n left book marks (Loads.refused k rest l x e f g) none = none
  load_unmarked n left book marks (Loads.enters k rest l was old e f more) none = load_unmarked _ _ _ (cleared (length roster) old) more (cleared_unmarked (length roster) old none)

  load_long : (n : ℕ) (left : List ℕ) (book : List Link) (marks : List ℕ) → Loads roster limit entries book' marks' r n left book marks → length roster ≤ length marks → length marks' ≡ length marks
  load_long n left book marks (Loads.done k e) h = refl
  load_long n left book marks (Loads.malformed k b rest t e f) h = refl
  load_long n left book marks (Loads.refused k rest l x e f g) h = refl
  load_long n left book marks (Loads.enters k rest l was old e f more) h =
      let same = cleared_long (length roster) old h in
      load_long _ _ _ (cleared (length roster) old) more (omega (arith, same, h)) ∙ same

-- memory that is large enough, in which nothing is marked, holds no settled destination
holds_none : (roster : List ℕ) (book : List Link) (entries : List (Entry ℕ)) (marks : List ℕ) → small (length roster) entries marks ≡ false → Unmarked marks → Holds delay roster book [] entries marks
holds_none roster book entries marks large none =
    record {
      enough = large;
      marked = λ d j here. sym (ne_eqb (get_or marks j 0) 1 (λ e. omega (arith, none j, e)));
      right = λ d j here e. absurd (omega (arith, none j, e));
    }

still_large : {C : Type 0} (n : ℕ) (entries entries' : List (Entry C)) (marks marks' : List ℕ) → small n entries marks ≡ false → entries' ≡ entries → length marks' ≡ length marks → small n entries' marks' ≡ false
still_large n entries entries' marks marks' large e m = grind (arith, nat_tests)

marks_enough : {C : Type 0} (n : ℕ) (entries : List (Entry C)) (marks : List ℕ) → small n entries marks ≡ false → n ≤ length marks
marks_enough n entries marks large = grind (arith, nat_tests)

-- a load over memory that is large enough for these ASes, in which nothing is marked, leaves no destination settled
pub load_holds : (ases roster roster' text : List ℕ) (limit : ℕ) (entries entries' : List (Entry ℕ)) (book book' : List Link) (marks marks' : List ℕ) (r : Result ℕ Fault) →
    Loads roster limit entries book' marks' r 0 text book marks → roster ≡ ases → roster' ≡ roster → entries' ≡ entries → small (length ases) entries marks ≡ false → Unmarked marks → Holds delay roster' book' [] entries' marks'
load_holds ases roster roster' text limit entries entries' book book' marks marks' r loads own same kept enough none =
    let large : small (length roster) entries marks ≡ false = ap (λ xs. small (length xs) entries marks) own ∙ enough in
    let long = load_long roster limit entries book' marks' r 0 text book marks loads (marks_enough (length roster) entries marks large) in
    let still = still_large (length roster) entries entries' marks marks' large kept long in
    holds_none roster' book' entries' marks' (ap (λ xs. small (length xs) entries' marks') same ∙ still) (load_unmarked roster limit entries book' marks' r 0 text book marks loads none)

-- a load into an empty store of these ASes
pub enters_all : (ases roster text : List ℕ) (limit : ℕ) (entries : List (Entry ℕ)) (book book' : List Link) (marks marks' : List ℕ) (r : Result ℕ Fault) →
    Loads roster limit entries book' marks' r 0 text book marks → roster ≡ ases → limit ≡ 276 → book ≡ [] → small (length ases) entries marks ≡ false → EntersAll ases text book' r
enters_all ases roster text limit entries book book' marks marks' r loads own most empty enough =
    record {
      entries = entries;
      marks = marks;
      marks_then = marks';
      enough = enough;
      loads = subst (λ x. Loads ases 276 entries book' marks' r 0 text x marks) empty (subst (λ x. Loads ases x entries book' marks' r 0 text book marks) most (subst (λ x. Loads x limit entries book' marks' r 0 text book marks) own loads));
    }
