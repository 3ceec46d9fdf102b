-- Calls on the plain board: what each must answer, and what it changes. Assumes nothing.
use Rattle.std.specs.Prelude.{◌≡◌, ℕ, ◌*◌, min, max, Bool, true, false, ◌||◌, List, [], ◌∷◌, ◌++◌, length, replicate, Some, None, Ok, Err, vec_items, Option, Result, Vec, nat_lt}
use Rattle.std.specs.declared.alloc.AllocError.{AllocError}
use Rattle.std.specs.declared.alloc.Global.{Global}
use Rattle.network.specs.declared.types.Link.{Link}
use Rattle.network.specs.declared.types.EditRefusal.{EditRefusal}
use Rattle.network.specs.Books.{added, recosted, without, entered, relation_of}
use Rattle.network.specs.Rosters.{Among}
use Rattle.network.specs.Causes.{first_cause, unknown, link_causes, recost_causes, unlink_causes}
use Rattle.network.specs.Edits.{answered, unless}
use Rattle.measure.specs.Measures.{Measure}
use Rattle.legality.specs.declared.types.Class.{Class}
use Rattle.legality.specs.Networks.{Network, net_of}
use Rattle.legality.specs.Paths.{Distinct, Route}
use Rattle.table.specs.declared.types.RouteRefusal.{RouteRefusal}
use Rattle.table.specs.declared.types.RouteRefusal.TheVariants.{WorkTooSmall, UnknownAs}
use Rattle.table.specs.Memory.{small}
use Rattle.routes.specs.Routes.{Hops, Sends}
use Rattle.board.specs.declared.types.BoardRefusal.{BoardRefusal}
use Rattle.board.specs.declared.types.BoardRefusal.TheVariants.{TableTooSmall}
use Rattle.board.specs.Edits.{told}
use Rattle.runs.specs.declared.types.Edit.{Edit}
use Rattle.runs.specs.declared.types.Edit.TheVariants.{Link as LinkCall, Recost, Unlink}
use Rattle.runs.specs.declared.types.ReadCall.{ReadCall}
use Rattle.runs.specs.declared.types.ReadCall.TheVariants.{Settle, Hop, Send}
use Rattle.runs.specs.declared.types.Call.{Call}
use Rattle.runs.specs.declared.types.Call.TheVariants as calls
use Rattle.runs.specs.declared.types.Reply.{Reply}
use Rattle.runs.specs.declared.types.Reply.TheVariants.{Edited, Settled, Hopped, Sent}
use Rattle.runs.specs.declared.types.RunRefusal.{RunRefusal}
use Rattle.runs.specs.declared.types.RunRefusal.TheVariants.{Board as NotOpened, OutOfMemory}
use Rattle.runs.specs.Plain.{Plain, Board, Stands, fresh}

-- why an edit is refused, its causes in their order
abbrev pub causes_of : List ℕ → List Link → ℕ → Edit → List (EditRefusal × Bool)
causes_of roster book limit (LinkCall a b relation f) = link_causes roster book limit a b relation f
causes_of roster book limit (Recost a b f) = recost_causes roster book a b f
causes_of roster book limit (Unlink a b) = unlink_causes roster book a b

-- the book after an edit that is accepted
abbrev pub book_after : List Link → Edit → List Link
book_after book (LinkCall a b relation f) = added book (entered a b (relation_of relation) f)
book_after book (Recost a b f) = recosted book (min a b) (max a b) f
book_after book (Unlink a b) = without book (min a b) (max a b)

-- why a settle with work memory of these sizes is refused, its causes in their order
abbrev pub settle_causes : List ℕ → ℕ → ℕ → ℕ → List (RouteRefusal × Bool)
settle_causes roster d waiting numbers = (WorkTooSmall, nat_lt waiting (2 * length roster) || nat_lt numbers (2 * length roster)) ∷ ((UnknownAs, unknown roster d) ∷ [])

-- an accepted edit makes its book, and leaves no destination settled; a board with no limit takes no edits
abbrev pub edit_after : Plain → Edit → Option ℕ → Plain
edit_after p e None = p
edit_after p e (Some limit) =
    unless (first_cause (causes_of p.roster p.book limit e)) p (record { roster = p.roster; book = book_after p.book e; limit = p.limit; settled = [] })

-- an accepted settle leaves its destination settled, and no other call changes anything
abbrev pub read_after : Plain → ReadCall → Plain
read_after p (Settle d waiting numbers) =
    unless (first_cause (settle_causes p.roster d waiting numbers)) p (record { roster = p.roster; book = p.book; limit = p.limit; settled = d ∷ p.settled })
read_after p (Hop s e d) = p
read_after p (Send s d room) = p

-- the plain board after a call
abbrev pub after : Plain → Call → Plain
after p (calls.Edit e) = edit_after p e p.limit
after p (calls.Read c) = read_after p c

-- So many pairs of AS and class have a route to d: `pairs` names each of them once, and no other.
pub record Reaches (net : Network) (d count : ℕ) : Type 0 where
  pub pairs : List (ℕ × Class)
  pub once : Distinct pairs
  pub routed : (a : ℕ) (e : Class) → Among (a, e) pairs → (q : List ℕ) × Route net e a d q
  pub all : (a : ℕ) (e : Class) (q : List ℕ) → Route net e a d q → Among (a, e) pairs
  pub counted : length pairs ≡ count

-- what a settle of d must answer: its first cause of refusal, or how many pairs have a route
abbrev pub SettlesSo : Network → ℕ → Option RouteRefusal → Result ℕ RouteRefusal → Type 0
SettlesSo net d (Some x) r = r ≡ Err x
SettlesSo net d None r = (count : ℕ) × (r ≡ Ok count) × Reaches net d count

-- What a call must answer on the plain board.
pub data Judged {C : Type 0} (m : Measure C) (p : Plain) : Call → Reply C → Type 0 where
  edit : (e : Edit) (limit : ℕ) (r : Result (Unit {0}) BoardRefusal) → p.limit ≡ Some limit → r ≡ answered (first_cause (told (causes_of p.roster p.book limit e))) →
      Judged m p (calls.Edit e) (Edited r)
  settle : (d waiting numbers : ℕ) (r : Result ℕ RouteRefusal) → SettlesSo (net_of p.roster p.book) d (first_cause (settle_causes p.roster d waiting numbers)) r →
      Judged m p (calls.Read (Settle d waiting numbers)) (Settled r)
  hop : (s : ℕ) (e : Class) (d : ℕ) (r : Result (Option ℕ) RouteRefusal) → Hops m p.roster p.book p.settled s e d r → Judged m p (calls.Read (Hop s e d)) (Hopped r)
  send : (s d room : ℕ) (r : Result (C × ℕ) RouteRefusal) (list : Vec ℕ Global) → Sends m p.roster p.book p.settled s d (replicate room 0) r (vec_items list) →
      Judged m p (calls.Read (Send s d room)) (Sent r list)

-- The call is answered as it must be, and the board b' stands for the plain board after it.
pub record Played {C : Type 0} (m : Measure C) (p : Plain) (b' : Board C) (call : Call) (reply : Reply C) : Type 0 where
  pub judged : Judged m p call reply
  pub stands : Stands m (after p call) b'

-- the calls that bring memory: there may be none for them
abbrev pub Brings : Call → Type 0
Brings (calls.Edit e) = ⊥
Brings (calls.Read (Settle d waiting numbers)) = Unit {0}
Brings (calls.Read (Hop s e d)) = ⊥
Brings (calls.Read (Send s d room)) = Unit {0}

-- What a call on the board b came to, that left the board b': no memory for it and all as it was, or it was played on every plain board that b stands for.
abbrev pub Plays : {C : Type 0} → Measure C → Board C → Board C → Call → Result (Reply C) AllocError → Type 0
Plays m b b' call (Ok reply) = (p : Plain) → Stands m p b → Played m p b' call reply
Plays m b b' call (Err x) = Brings call × (b' ≡ b)

-- A run: each call judged on the plain board that the calls before it left; p' is the plain board after them all.
pub data Run {C : Type 0} (m : Measure C) : Plain → List Call → List (Reply C) → Plain → Type 0 where
  done : (p : Plain) → Run m p [] [] p
  next : (p : Plain) (call : Call) (reply : Reply C) (calls : List Call) (replies : List (Reply C)) (p' : Plain) →
      Judged m p call reply → Run m (after p call) calls replies p' → Run m p (call ∷ calls) (reply ∷ replies) p'

-- The calls were judged one by one from the plain board p on, and the board b' stands for the plain board after them.
pub record Ran {C : Type 0} (m : Measure C) (p : Plain) (b' : Board C) (calls : List Call) (replies : List (Reply C)) : Type 0 where
  pub end : Plain
  pub run : Run m p calls replies end
  pub stands : Stands m end b'

-- What a list of calls on the board b came to, that left the board b': all of them made, from the fresh plain board on; or the table memory
-- is too small to open the board, and all is as it was; or there was no more memory after the first of them.
abbrev pub Replays : {C : Type 0} → Measure C → Board C → Board C → List Call → Result (Vec (Reply C) Global) RunRefusal → Type 0
Replays m b b' calls (Ok replies) = (small (length b.roster) b.entries b.marks ≡ false) × Ran m (fresh b) b' calls (vec_items replies)
Replays m b b' calls (Err (NotOpened x)) = (small (length b.roster) b.entries b.marks ≡ true) × (x ≡ TableTooSmall) × (b' ≡ b)
Replays {C} m b b' calls (Err OutOfMemory) =
    (small (length b.roster) b.entries b.marks ≡ false) × ((made : List Call) × (left : List Call) × (replies : List (Reply C)) × (calls ≡ made ++ left) × Ran m (fresh b) b' made replies)
