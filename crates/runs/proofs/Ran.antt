-- Runs, from the opening of a board, call by call. Assumes nothing.
use Rattle.std.proofs.Common.{◌≡◌, ℕ, ◌+◌, ◌<◌, ◌≤◌, Bool, true, false, List, [], ◌∷◌, ◌++◌, map, length, get_or, take, drop, None, Ok, Err, vec_items, Result, Vec, sym, refl, ap, ◌∙◌, subst, subst₂, arith}
use Rattle.std.specs.declared.alloc.Global.{Global}
use Rattle.std.proofs.lemmas.List.{take_more, take_all, take-append-drop, length-map, get_or-map}
use Rattle.network.specs.Causes.{first_cause}
use Rattle.network.specs.Edits.{unless}
use Rattle.network.proofs.Answered.{no_cause_of}
use Rattle.measure.specs.Measures.{Measure}
use Rattle.table.specs.declared.types.Entry.{Entry}
use Rattle.table.specs.Memory.{small}
use Rattle.board.specs.declared.types.BoardRefusal.TheVariants.{TableTooSmall}
use Rattle.board.specs.Edits.{cleared, Opens}
use Rattle.runs.specs.declared.types.Call.{Call}
use Rattle.runs.specs.declared.types.Reply.{Reply}
use Rattle.runs.specs.declared.types.RunRefusal.{RunRefusal}
use Rattle.runs.specs.declared.types.RunRefusal.TheVariants.{OutOfMemory}
use Rattle.runs.specs.Plain.{Plain, Board, Stands, fresh}
use Rattle.runs.specs.Runs.{after, Judged, Played, Run, Ran, Replays}
use Rattle.runs.proofs.Stood.{stood, holds_none, holds_moved}

module _ {C : Type 0} (m : Measure C) where
  run_more : {p p' : Plain} {calls : List Call} {replies : List (Reply C)} → Run m p calls replies p' → (call : Call) (reply : Reply C) → Judged m p' call reply →
      Run m p (calls ++ call ∷ []) (replies ++ reply ∷ []) (after p' call)
  run_more (Run.done p) call reply j = Run.next p call reply [] [] (after p call) j (Run.done (after p call))
  run_more (Run.next p c r cs rs p' i rest) call reply j = Run.next p c r (cs ++ call ∷ []) (rs ++ reply ∷ []) (after p' call) i (run_more rest call reply j)

  -- a board that was opened, and has met no call yet
  pub ran_none : (b : Board C) (entries' : List (Entry C)) (marks' : List ℕ) → Opens (length b.roster) b.entries entries' b.marks marks' (Ok tt) →
      (small (length b.roster) b.entries b.marks ≡ false) × Ran m (fresh b) (record { roster = b.roster; book = b.book; limit = b.limit; entries = entries'; marks = marks' }) [] []
  ran_none b entries' marks' x =
      let n = length b.roster in
      let none = no_cause_of (first_cause ((TableTooSmall, small n b.entries b.marks) ∷ [])) x.answer in
      let large = large_so (small n b.entries b.marks) none in
      let marks_are : marks' ≡ cleared n b.marks = x.marks_then ∙ ap (λ o. unless o b.marks (cleared n b.marks)) none in
      let b' : Board C = record { roster = b.roster; book = b.book; limit = b.limit; entries = entries'; marks = marks' } in
      (large, record { end = fresh b; run = Run.done (fresh b); stands = stood m b' [] (holds_moved m [] refl refl x.entries_then marks_are (holds_none m b.roster b.book b.entries b.marks large)) })
    where
      large_so : (t : Bool) → first_cause ((TableTooSmall, t) ∷ []) ≡ None → t ≡ false
      large_so true e = cc
      large_so false e = refl

-- A run over the calls of a list; `made` counts those that were made.
module _ {C : Type 0} (m : Measure C) (calls : List Call) where
  -- the next one
  pub made_more : {p : Plain} {b b' : Board C} {made : ℕ} {replies : List (Reply C)} {reply : Reply C} (call : Call) → made < length calls → Ran m p b (take made calls) replies →
      ((q : Plain) → Stands m q b → Played m q b' (get_or calls made call) reply) → Ran m p b' (take (made + 1) calls) (replies ++ reply ∷ [])
  made_more {p} {b} {b'} {made} {replies} {reply} call low ran plays =
      let one = plays ran.end ran.stands in
      subst (λ xs. Ran m p b' xs (replies ++ reply ∷ [])) (sym (take_more calls made call low))
      (record { end = after ran.end (get_or calls made call); run = run_more m ran.run (get_or calls made call) reply one.judged; stands = one.stands })

  -- it breaks off
  pub broke_off : (b : Board C) {b' b'' : Board C} (made : ℕ) {replies : List (Reply C)} {r : Result (Vec (Reply C) Global) RunRefusal} → small (length b.roster) b.entries b.marks ≡ false →
      Ran m (fresh b) b' (take made calls) replies → b'' ≡ b' → (y : RunRefusal) × (r ≡ Err y) × (y ≡ OutOfMemory) → Replays m b b'' calls r
  broke_off b {b'} {b''} made {replies} large ran same answer =
      subst₂ (λ x r. Replays m b x calls r) (sym same) (sym (answer.1 ∙ ap Err answer.2)) (large, (take made calls, drop made calls, replies, sym (take-append-drop made calls), ran))

  -- all were made
  pub made_all : (b : Board C) {b' : Board C} {made : ℕ} (replies : Vec (Reply C) Global) → small (length b.roster) b.entries b.marks ≡ false → length calls ≤ made →
      Ran m (fresh b) b' (take made calls) (vec_items replies) → Replays m b b' calls (Ok replies)
  made_all b {b'} {made} replies large all ran = (large, subst (λ xs. Ran m (fresh b) b' xs (vec_items replies)) (take_all made calls all) ran)

-- the next one of a list whose elements each have a call
pub mapped_more : {C T : Type 0} (m : Measure C) (call_of : T → Call) (xs : List T) {p : Plain} {b b' : Board C} {made : ℕ} {replies : List (Reply C)} {reply : Reply C} {call : Call} (x : T) → made < length xs →
    call ≡ call_of (get_or xs made x) → Ran m p b (take made (map call_of xs)) replies → ((q : Plain) → Stands m q b → Played m q b' call reply) → Ran m p b' (take (made + 1) (map call_of xs)) (replies ++ reply ∷ [])
mapped_more m call_of xs {p} {b} {b'} {made} {replies} {reply} {call} x low is ran plays =
    made_more m (map call_of xs) (call_of x) (let same = length-map xs call_of in omega arith) ran
    (λ q stands. subst (λ k. Played m q b' k reply) (is ∙ sym (get_or-map call_of xs made x (call_of x) low)) (plays q stands))
