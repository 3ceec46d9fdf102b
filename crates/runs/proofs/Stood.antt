-- Boards that stand for a plain board. Assumes nothing.
use Rattle.std.proofs.Common.{◌≡◌, ℕ, ◌*◌, false, ◌||◌, eqb, ltb, List, [], length, get_or, drop, replicate, Some, sym, refl, ap, ◌∙◌, subst, arith}
use Rattle.std.proofs.lemmas.List.{length-append, length-drop, length-replicate, get_or_append_left, get_or-replicate}
use Rattle.network.specs.declared.types.Link.{Link}
use Rattle.network.specs.Rosters.{place}
use Rattle.network.proofs.Rising.{place_stands}
use Rattle.measure.specs.Measures.{Measure}
use Rattle.table.specs.declared.types.Entry.{Entry}
use Rattle.table.specs.Memory.{small}
use Rattle.table.proofs.Cells.{not_small}
use Rattle.routes.specs.Routes.{Holds}
use Rattle.board.specs.Edits.{cleared}
use Rattle.runs.specs.Plain.{Plain, Board, Stands}

-- the plain board of a board, with these destinations settled
abbrev pub plain_of : {C : Type 0} → Board C → List ℕ → Plain
plain_of b settled = record { roster = b.roster; book = b.book; limit = b.limit; settled = settled }

-- what holds of every plain board of this roster, book and limit holds of one that the board stands for
pub on_plain : {C : Type 0} (m : Measure C) (b : Board C) (p : Plain) → Stands m p b → (P : Plain → Type 0) →
    ((settled : List ℕ) → Holds m b.roster b.book settled b.entries b.marks → P (plain_of b settled)) → P p
on_plain m b p s P h =
    subst (λ x. P (record { roster = x; book = p.book; limit = p.limit; settled = p.settled })) (sym s.roster_is)
    (subst (λ x. P (record { roster = b.roster; book = x; limit = p.limit; settled = p.settled })) (sym s.book_is)
    (subst (λ x. P (record { roster = b.roster; book = b.book; limit = x; settled = p.settled })) (sym s.limit_is) (h p.settled s.holds)))

pub stood : {C : Type 0} (m : Measure C) (b : Board C) (settled : List ℕ) → Holds m b.roster b.book settled b.entries b.marks → Stands m (plain_of b settled) b
stood m b settled h = record { roster_is = refl; book_is = refl; limit_is = refl; holds = h }

-- where the marks are cleared, nothing is settled
pub holds_none : {C : Type 0} (m : Measure C) (roster : List ℕ) (book : List Link) (entries : List (Entry C)) (marks : List ℕ) → small (length roster) entries marks ≡ false →
    Holds m roster book [] entries (cleared (length roster) marks)
holds_none m roster book entries marks large =
    record {
      enough = ap (λ k. ltb (length entries) (2 * n * n) || ltb k n) same ∙ large;
      marked = λ d j h. sym (ap (λ k. eqb k 1) (zero_at d j h));
      right = λ d j h k. absurd (let z = zero_at d j h in omega arith);
    }
  where
    n : ℕ
    n = length roster

    same : length (cleared n marks) ≡ length marks
    same = omega (arith, length-append (replicate n 0) (drop n marks), length-replicate {A = ℕ} n 0, length-drop n marks, (not_small n entries marks large).1)

    zero_at : (d j : ℕ) → place roster d ≡ Some j → get_or (cleared n marks) j 0 ≡ 0
    zero_at d j h =
        let low = (place_stands roster d j h).within in
        get_or_append_left (replicate n 0) (drop n marks) 0 j (omega (arith, length-replicate {A = ℕ} n 0)) ∙ get_or-replicate n j 0 0 low

-- what is held is held by the same board
pub holds_moved : {C : Type 0} (m : Measure C) {roster roster' : List ℕ} {book book' : List Link} {entries entries' : List (Entry C)} {marks marks' : List ℕ} (settled : List ℕ) →
    roster' ≡ roster → book' ≡ book → entries' ≡ entries → marks' ≡ marks → Holds m roster book settled entries marks → Holds m roster' book' settled entries' marks'
holds_moved m settled p q r s h = rw (p, q, r, s) h
