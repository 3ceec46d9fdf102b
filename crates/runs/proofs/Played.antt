-- Each call answers what it must, and leaves a board that stands for the plain board after it. Assumes nothing.
use Rattle.std.proofs.Common.{◌≡◌, ℕ, ◌*◌, Bool, false, cond, not, ◌||◌, ltb, List, [], ◌∷◌, length, replicate, is_some, Some, None, Ok, Err, vec_items, Option, Result, Vec, sym, refl, ap, ◌∙◌, subst, subst₂}
use Rattle.std.specs.declared.alloc.Global.{Global}
use Rattle.std.proofs.lemmas.List.{length-replicate}
use Rattle.std.proofs.lemmas.Bool.{cond-false}
use Rattle.network.specs.declared.types.Link.{Link}
use Rattle.network.specs.declared.types.EditRefusal.{EditRefusal}
use Rattle.network.specs.Rosters.{place}
use Rattle.network.specs.Causes.{first_cause}
use Rattle.network.specs.Edits.{answered, unless}
use Rattle.network.specs.Sound.{Sound}
use Rattle.measure.specs.Measures.{Measure, Laws}
use Rattle.legality.specs.declared.types.Class.{Class}
use Rattle.legality.specs.Networks.{net_of}
use Rattle.table.specs.declared.types.Entry.{Entry}
use Rattle.table.specs.declared.types.RouteRefusal.{RouteRefusal}
use Rattle.table.specs.declared.types.RouteRefusal.TheVariants as route
use Rattle.table.specs.Memory.{small}
use Rattle.table.proofs.Cells.{not_small}
use Rattle.routes.specs.Raw.{hop_answer, sending, send_answer, send_list}
use Rattle.routes.specs.Routes.{Hops, Sends, Holds}
use Rattle.routes.proofs.Answered.{hops, sends}
use Rattle.settle.specs.Memory.{Memory}
use Rattle.settle.specs.Settled.{unknown, cause, Settles}
use Rattle.board.specs.declared.types.BoardRefusal.{BoardRefusal}
use Rattle.board.specs.declared.types.BoardRefusal.TheVariants.{TableTooSmall}
use Rattle.board.specs.Edits.{told, cleared, BoardEdits}
use Rattle.board.proofs.Told.{as_edit, first_told}
use Rattle.runs.specs.declared.types.Edit.{Edit}
use Rattle.runs.specs.declared.types.ReadCall.TheVariants.{Settle, Hop, Send}
use Rattle.runs.specs.declared.types.Call.TheVariants as calls
use Rattle.runs.specs.declared.types.Reply.TheVariants.{Edited, Settled, Hopped, Sent}
use Rattle.runs.specs.Plain.{Plain, Board, Stands}
use Rattle.runs.specs.Runs.{causes_of, book_after, settle_causes, Reaches, SettlesSo, Judged, Played}
use Rattle.runs.specs.Work.{SettledWith}
use Rattle.runs.proofs.Stood.{plain_of, on_plain, stood, holds_none, holds_moved}
use Rattle.runs.proofs.Filled.{holds_more}
use Rattle.runs.proofs.Reached.{reaches}

module _ {C : Type 0} (m : Measure C) (b : Board C) (p : Plain) (stands : Stands m p b) where
  pub hop_played : Laws m → Sound b.roster b.book → (s : ℕ) (e : Class) (d : ℕ) (r : Result (Option ℕ) RouteRefusal) → r ≡ hop_answer m (net_of b.roster b.book) b.entries b.marks s e d →
      Played m p b (calls.Read (Hop s e d)) (Hopped r)
  hop_played laws sound s e d r is =
      on_plain m b p stands (λ q. Played m q b (calls.Read (Hop s e d)) (Hopped r))
      (λ settled holds. record {
        judged = Judged.hop s e d r (subst (Hops m b.roster b.book settled s e d) (sym is) (hops m laws b.roster b.book sound settled b.entries b.marks holds s e d));
        stands = stood m b settled holds;
      })

  pub send_played : Laws m → Sound b.roster b.book → (s d room : ℕ) (r : Result (C × ℕ) RouteRefusal) (list : Vec ℕ Global) →
      r ≡ send_answer (sending m (net_of b.roster b.book) b.entries b.marks s d room) → vec_items list ≡ send_list (replicate room 0) (sending m (net_of b.roster b.book) b.entries b.marks s d room) →
      Played m p b (calls.Read (Send s d room)) (Sent r list)
  send_played laws sound s d room r list is left =
      on_plain m b p stands (λ q. Played m q b (calls.Read (Send s d room)) (Sent r list))
      (λ settled holds.
      let zeros : List ℕ = replicate room 0 in
      let sending_with = λ (k : ℕ). sending m (net_of b.roster b.book) b.entries b.marks s d k in
      let right = subst (λ k. Sends m b.roster b.book settled s d zeros (send_answer (sending_with k)) (send_list zeros (sending_with k))) (length-replicate room 0) (sends m laws b.roster b.book sound settled b.entries b.marks holds s d zeros) in
      record { judged = Judged.send s d room r list (subst₂ (Sends m b.roster b.book settled s d zeros) (sym is) (sym left) right); stands = stood m b settled holds })

-- the board with other table memory
abbrev pub with_table : {C : Type 0} → Board C → List (Entry C) → List ℕ → Board C
with_table b entries marks = record { roster = b.roster; book = b.book; limit = b.limit; entries = entries; marks = marks }

-- settle's causes are the plain board's, where the table memory is large enough
cause_is : {C : Type 0} (roster : List ℕ) (d : ℕ) (memory : Memory C) → small (length roster) memory.entries memory.marks ≡ false →
    cause roster d memory ≡ first_cause (settle_causes roster d (length memory.waiting) (length memory.numbers))
cause_is roster d memory large =
    cond-false (small (length roster) memory.entries memory.marks) (Some route.TableTooSmall) (rest (unknown (place roster d))) large ∙ ap rest (last (place roster d))
  where
    rest : Option RouteRefusal → Option RouteRefusal
    rest o = cond (ltb (length memory.waiting) (2 * length roster) || ltb (length memory.numbers) (2 * length roster)) (Some route.WorkTooSmall) o

    last : (o : Option ℕ) → unknown o ≡ cond (not (is_some o)) (Some route.UnknownAs) None
    last None = refl
    last (Some i) = refl

pub settle_played : {C : Type 0} (m : Measure C) (b : Board C) (p : Plain) → Stands m p b → Sound b.roster b.book → (d waiting numbers : ℕ) (entries' : List (Entry C)) (marks' : List ℕ) (r : Result ℕ RouteRefusal) →
    SettledWith m b.roster b.book d waiting numbers b.entries entries' b.marks marks' (Ok r) → Played m p (with_table b entries' marks') (calls.Read (Settle d waiting numbers)) (Settled r)
settle_played {C} m b p stands sound d waiting numbers entries' marks' r h = on_plain m b p stands (λ q. Played m q b' (calls.Read (Settle d waiting numbers)) (Settled r)) (λ settled holds. go settled holds r h.6)
  where
    b' : Board C
    b' = with_table b entries' marks'

    before : Memory C
    before = record { entries = b.entries; marks = b.marks; waiting = h.0; numbers = h.2 }

    after : Memory C
    after = record { entries = entries'; marks = marks'; waiting = h.1; numbers = h.3 }

    why : Option RouteRefusal
    why = first_cause (settle_causes b.roster d waiting numbers)

    cause_told : small (length b.roster) b.entries b.marks ≡ false → why ≡ cause b.roster d before
    cause_told large =
        sym (cause_is b.roster d before large ∙ ap (λ k. first_cause (settle_causes b.roster d k (length h.2))) h.4 ∙ ap (λ k. first_cause (settle_causes b.roster d waiting k)) h.5)

    done : (settled : List ℕ) (r : Result ℕ RouteRefusal) (o : Option RouteRefusal) → why ≡ o → SettlesSo (net_of b.roster b.book) d o r → Stands m (unless o (plain_of b settled) (plain_of b (d ∷ settled))) b' →
        Played m (plain_of b settled) b' (calls.Read (Settle d waiting numbers)) (Settled r)
    done settled r o e answer left =
        record {
          judged = Judged.settle d waiting numbers r (subst (λ z. SettlesSo (net_of b.roster b.book) d z r) (sym e) answer);
          stands = subst (λ z. Stands m (unless z (plain_of b settled) (plain_of b (d ∷ settled))) b') (sym e) left;
        }

    go : (settled : List ℕ) → Holds m b.roster b.book settled b.entries b.marks → (r : Result ℕ RouteRefusal) → Settles m b.roster b.book d before after r →
        Played m (plain_of b settled) b' (calls.Read (Settle d waiting numbers)) (Settled r)
    go settled holds (Ok count) x =
        let j = x.1.0 in
        let fills = x.1.2 in
        let more = holds_more m b.roster b.book settled before after holds d j x.1.1 count fills in
        let large = (not_small (length b.roster) entries' marks' more.enough).0 in
        let pairs = reaches m b.roster b.book sound entries' large d j x.1.1 fills.column in
        done settled (Ok count) None (cause_told holds.enough ∙ x.0) (count, refl, subst (Reaches (net_of b.roster b.book) d) (sym fills.counted) pairs) (stood m b' (d ∷ settled) more)
    go settled holds (Err y) x =
        done settled (Err y) (Some y) (cause_told holds.enough ∙ x.0) refl
        (stood m b' settled (holds_moved m settled refl refl (ap (λ z. z.entries) x.1) (ap (λ z. z.marks) x.1) holds))

-- what a store that takes edits and a table memory hold
abbrev pub editable : {C : Type 0} → List ℕ → List Link → ℕ → List (Entry C) → List ℕ → Board C
editable roster book limit entries marks = record { roster = roster; book = book; limit = Some limit; entries = entries; marks = marks }

pub edit_played : {C : Type 0} (m : Measure C) (roster roster' : List ℕ) (book book' : List Link) (limit limit' : ℕ) (entries entries' : List (Entry C)) (marks marks' : List ℕ) (e : Edit) (r : Result (Unit {0}) BoardRefusal) →
    BoardEdits ((TableTooSmall, small (length roster) entries marks) ∷ told (causes_of roster book limit e)) (book_after book e) roster roster' book book' limit limit' entries entries' marks marks' r →
    (p : Plain) → Stands m p (editable roster book limit entries marks) → Played m p (editable roster' book' limit' entries' marks') (calls.Edit e) (Edited r)
edit_played {C} m roster roster' book book' limit limit' entries entries' marks marks' e r x p stands = on_plain m b p stands (λ q. Played m q b' (calls.Edit e) (Edited r)) done
  where
    b : Board C
    b = editable roster book limit entries marks

    b' : Board C
    b' = editable roster' book' limit' entries' marks'

    next : List Link
    next = book_after book e

    cs : List (EditRefusal × Bool)
    cs = causes_of roster book limit e

    first : small (length roster) entries marks ≡ false → first_cause ((TableTooSmall, small (length roster) entries marks) ∷ told cs) ≡ first_cause (told cs)
    first large = cond-false (small (length roster) entries marks) (Some TableTooSmall) (first_cause (told cs)) large

    plain_next : Plain
    plain_next = record { roster = roster; book = next; limit = Some limit; settled = [] }

    left : (settled : List ℕ) → Holds m roster book settled entries marks → (o : Option EditRefusal) → first_cause cs ≡ o → Stands m (unless o (plain_of b settled) plain_next) b'
    left settled holds o why = at o (first holds.enough ∙ first_told cs ∙ ap as_edit why)
      where
        at : (o : Option EditRefusal) → first_cause ((TableTooSmall, small (length roster) entries marks) ∷ told cs) ≡ as_edit o → Stands m (unless o (plain_of b settled) plain_next) b'
        at None all =
            let book_is : book' ≡ next = x.book_then ∙ ap (λ z. unless z book next) all in
            let marks_are : marks' ≡ cleared (length roster) marks = x.marks_then ∙ ap (λ z. unless z marks (cleared (length roster) marks)) all in
            record {
              roster_is = sym x.roster_then;
              book_is = sym book_is;
              limit_is = ap Some (sym x.limit_then);
              holds = holds_moved m [] x.roster_then book_is x.entries_then marks_are (holds_none m roster next entries marks holds.enough);
            }
        at (Some y) all =
            let book_is : book' ≡ book = x.book_then ∙ ap (λ z. unless z book next) all in
            let marks_are : marks' ≡ marks = x.marks_then ∙ ap (λ z. unless z marks (cleared (length roster) marks)) all in
            record {
              roster_is = sym x.roster_then;
              book_is = sym book_is;
              limit_is = ap Some (sym x.limit_then);
              holds = holds_moved m settled x.roster_then book_is x.entries_then marks_are holds;
            }

    done : (settled : List ℕ) → Holds m roster book settled entries marks → Played m (plain_of b settled) b' (calls.Edit e) (Edited r)
    done settled holds = record { judged = Judged.edit e limit r refl (x.answer ∙ ap answered (first holds.enough)); stands = left settled holds (first_cause cs) refl }
