use Rattle.std.proofs.Common.{◌≡◌, ℕ, ◌*◌, ◌≤◌, Bool, true, false, cond, ◌||◌, ltb, List, [], map, length, replicate, IfOk, Some, Ok, Err, vec_items, Result, Vec, sym, refl, ap, ◌∙◌, subst, mul-le-mul, arith}
use Rattle.std.specs.declared.alloc.Global.{Global}
use Rattle.std.proofs.lemmas.Bool.{and_parts, leb-true, or_from, le-ltb}
use Rattle.network.specs.declared.types.Link.{Link}
use Rattle.network.specs.Rosters.{is_roster, roster_from}
use Rattle.stores.specs.Grid.{grid_roster, grid_book}
use Rattle.measure.specs.Delay.{delay}
use Rattle.table.specs.declared.types.Entry.{Entry}
use Rattle.table.specs.Memory.{small}
use Rattle.runs.specs.declared.types.Reply.{Reply}
use Rattle.runs.specs.declared.types.RunRefusal.{RunRefusal}
use Rattle.runs.specs.declared.types.RunRefusal.TheVariants.{Board as NotOpened, OutOfMemory}
use Rattle.runs.specs.Plain.{Board, board_of}
use Rattle.runs.specs.Runs.{Replays, Run}
use Rattle.scripts.specs.Scripts.{Answers, Refused, bare}
use Rattle.scripts.specs.declared.types.Script.{Script}
use Rattle.scripts.specs.declared.types.ScriptCall.{ScriptCall}
use Rattle.scripts.proofs.run.run_script.Goals as goal

few_of : (ases : List ℕ) (b : Bool) → is_roster 24 ases ≡ b → length (cond b ases []) ≤ 24
few_of ases true e = leb-true _ _ (and_parts _ _ (and_parts _ _ e).1).0
few_of ases false e = omega arith

-- 1,152 entries and 24 marks are enough for 24 ASes
enough : (n : ℕ) → n ≤ 24 → (ltb 1152 (2 * n * n) || ltb 24 n) ≡ false
enough n h =
    let twice : 2 * n ≤ 48 = omega arith in
    let square : 2 * n * n ≤ 48 * 24 = mul-le-mul twice h in
    or_from (ltb 1152 (2 * n * n)) (ltb 24 n) (le-ltb 1152 (2 * n * n) square) (le-ltb 24 n h)

opens : (ases roster : List ℕ) → roster ≡ roster_from 24 ases → (ltb 1152 (2 * length roster * length roster) || ltb 24 (length roster)) ≡ false
opens ases roster e = ap (λ xs. ltb 1152 (2 * length xs * length xs) || ltb 24 (length xs)) e ∙ enough (length (roster_from 24 ases)) (few_of ases (is_roster 24 ases) refl)

-- what a run from a board without links came to
came : (s : Script) (calls : List ScriptCall) (roster : List ℕ) (book : List Link) (entries : List (Entry ℕ)) (marks : List ℕ) (b' : Board ℕ) (r : Result (Vec (Reply ℕ) Global) RunRefusal) →
    calls ≡ vec_items s.calls → roster ≡ roster_from 24 (vec_items s.roster) → book ≡ [] → length entries ≡ 1152 → length marks ≡ 24 →
    Replays delay (record { roster = roster; book = book; limit = Some 276; entries = entries; marks = marks }) b' (map (λ x. x.call) calls) r →
    (IfOk r (λ replies. Answers s replies)) × Refused r
came s calls roster book entries marks b' (Ok replies) d e f g h told =
    let P : List ScriptCall → List ℕ → List Link → Type 0 = λ cs xs links. Run delay (record { roster = xs; book = links; limit = Some 276; settled = [] }) (map (λ x. x.call) cs) (vec_items replies) told.1.end in
    ((told.1.end, subst (λ cs. P cs (bare s).roster []) d (subst (P calls (bare s).roster) f (subst (λ xs. P calls xs book) e told.1.run))), tt)
came s calls roster book entries marks b' (Err (NotOpened x)) d e f g h told =
    let n = length roster in
    let sizes : small n entries marks ≡ (ltb 1152 (2 * n * n) || ltb 24 n) = rw (g, h) in
    let never : true ≡ false = sym told.0 ∙ (sizes ∙ opens (vec_items s.roster) roster e) in
    (tt, cc)
came s calls roster book entries marks b' (Err OutOfMemory) d e f g h told = (tt, refl)

pub returns : goal.returns
returns c =
    let s = c.args.script.now in
    let store = c.replay_of.new.store in
    let after = board_of (grid_roster store) (grid_book store) (Some 276) c.replay_of.new.table in
    let ases = c.new-store.ensures.roster ∙ ap (roster_from 24) c.deref.ensures.value in
    let both = came s _ _ _ (replicate 1152 c.blank-entries.result) (replicate 24 0) after c.replay_of.result c.deref-2.ensures.value ases c.new-store.ensures.book refl refl c.replay_of.ensures.replays in
    record { answers = both.0; refused = both.1 }
