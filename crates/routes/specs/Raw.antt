-- What a question about a route answers over any table memory, right or spoiled. Places count from 0. Assumes nothing.
use Rattle.std.specs.Prelude.{ℕ, zero, suc, ◌-◌, ◌*◌, Bool, cond, not, ◌&&◌, List, [], ◌∷◌, ◌++◌, length, drop, Some, None, Ok, Err, Option, Result, ◌==◌, nat_lt, slice_index, slice_index_or, slice_get}
use Rattle.network.specs.declared.types.Figures.{Figures}
use Rattle.network.specs.declared.types.Relation.{Relation}
use Rattle.network.specs.Rosters.{place}
use Rattle.measure.specs.Measures.{Measure}
use Rattle.legality.specs.declared.types.Class.{Class}
use Rattle.legality.specs.declared.types.Class.TheVariants.{Home}
use Rattle.legality.specs.Classes.{allowed}
use Rattle.legality.specs.Networks.{Network}
use Rattle.table.specs.declared.types.Entry.{Entry}
use Rattle.table.specs.declared.types.RouteRefusal.{RouteRefusal}
use Rattle.table.specs.declared.types.RouteRefusal.TheVariants.{TableTooSmall, UnknownAs, NotSettled, NoPath, ListTooShort, FalseEntry, LongWalk}
use Rattle.table.specs.Columns.{blank}
use Rattle.table.specs.Memory.{small, index}

-- go on with what was answered, unless it was a refusal
abbrev pub then : {A B R : Type 0} → Result A R → (A → Result B R) → Result B R
then (Ok a) f = f a
then (Err x) f = Err x

-- go on with what there is, if there is
abbrev pub with_some : {A B : Type 0} → Option A → (A → Option B) → Option B
with_some (Some a) f = f a
with_some None f = None

abbrev pub spots : Option ℕ → Option ℕ → List ℕ → Result (ℕ × ℕ) RouteRefusal
spots None j marks = Err UnknownAs
spots (Some i) None marks = Err UnknownAs
spots (Some i) (Some j) marks = cond (slice_index marks j == 1) (Ok (i, j)) (Err NotSettled)

-- the places of the two ASes, the second of them settled
abbrev pub judged : {C : Type 0} → List ℕ → List (Entry C) → List ℕ → ℕ → ℕ → Result (ℕ × ℕ) RouteRefusal
judged roster entries marks s d = cond (small (length roster) entries marks) (Err TableTooSmall) (spots (place roster s) (place roster d) marks)

-- the cost c is in range, and that of a link with the figures f more than b, in range too
abbrev pub pays : {C : Type 0} → Measure C → C → C → Figures → Bool
pays m c b f = m.within c && (m.within b && (not (m.less c (m.extend b f)) && not (m.less (m.extend b f) c)))

-- a step that is not right is a false entry
abbrev pub unless_false : {A B : Type 0} → Option A → (A → Result B RouteRefusal) → Result B RouteRefusal
unless_false None f = Err FalseEntry
unless_false (Some s) f = f s

abbrev pub before : ℕ → Result (List ℕ) RouteRefusal → Result (List ℕ) RouteRefusal
before a (Ok p) = Ok (a ∷ p)
before a (Err x) = Err x

-- the path p and its cost c, where a list of some room has place for it
abbrev pub fitting : {C : Type 0} → ℕ → C → List ℕ → Result (List ℕ × C) RouteRefusal
fitting room c p = cond (nat_lt room (length p)) (Err ListTooShort) (Ok (p, c))

module _ {C : Type 0} (m : Measure C) (net : Network) (entries : List (Entry C)) where
  -- the entry of the AS at i for the class e, to the AS at j
  abbrev pub entry_at : ℕ → ℕ → Class → Entry C
  entry_at j i e = slice_index_or entries (index (length net.roster) j i e) (blank m.start)

  abbrev pub named : ℕ → ℕ
  named i = slice_index net.roster i

  -- what the entry x says of the next AS
  abbrev pub hop_by : Entry C → Result (Option ℕ) RouteRefusal
  hop_by x = cond (x.next == 65535) (Err NoPath) (unless_false (slice_get net.roster x.next) (λ a. Ok (Some a)))

  -- nothing at the destination, whose entries are not read
  abbrev pub hop_from : Class → ℕ × ℕ → Result (Option ℕ) RouteRefusal
  hop_from e p = cond (p.0 == p.1) (Ok None) (hop_by (entry_at p.1 p.0 e))

  -- what hop answers
  abbrev pub hop_answer : List ℕ → ℕ → Class → ℕ → Result (Option ℕ) RouteRefusal
  hop_answer marks s e d = then (judged net.roster entries marks s d) (hop_from e)

  -- the cost from the AS at i on, to the AS at j
  abbrev pub owed : ℕ → ℕ → Class → C
  owed j i e = cond (i == j) m.start (entry_at j i e).cost

  -- over a link to the AS at k, if the class may take it and the cost c pays for it
  abbrev pub over_link : ℕ → Class → C → ℕ → Relation × Figures → Option (ℕ × Class)
  over_link j e c k l = with_some (allowed e l.0) (λ e'. cond (pays m c (owed j k e') l.1) (Some (k, e')) None)

  -- the step from the AS at i to the AS at k, if both are places and linked
  abbrev pub between : ℕ → ℕ → Option (Relation × Figures)
  between i k = with_some (slice_get net.roster i) (λ a. with_some (slice_get net.roster k) (net.step a))

  -- the step from the AS at i by its entry, if all is right
  abbrev pub step_by : ℕ → ℕ → Class → Entry C → Option (ℕ × Class)
  step_by j i e x = with_some (between i x.next) (over_link j e x.cost x.next)

  abbrev pub next_of : ℕ → ℕ → Class → Option (ℕ × Class)
  next_of j i e = step_by j i e (entry_at j i e)

  -- the walk of the entries from the AS at i to the AS at j, of at most k ASes
  abbrev pub walk : ℕ → ℕ → ℕ → Class → Result (List ℕ) RouteRefusal
  walk zero j i e = Err LongWalk
  walk (suc k) j i e = cond (i == j) (Ok (named i ∷ [])) (unless_false (next_of j i e) (λ s. before (named i) (walk k j s.0 s.1)))

  -- the walk, but a first entry that is blank is no false one
  abbrev pub path_from : ℕ × ℕ → Result (List ℕ) RouteRefusal
  path_from p = cond (not (p.0 == p.1) && (entry_at p.1 p.0 Home).next == 65535) (Err NoPath) (walk (2 * length net.roster) p.1 p.0 Home)

  abbrev pub send_from : ℕ → ℕ × ℕ → Result (List ℕ × C) RouteRefusal
  send_from room p = then (path_from p) (fitting room (owed p.1 p.0 Home))

  -- the path from s to d that send writes into a list of some room, and its cost
  abbrev pub sending : List ℕ → ℕ → ℕ → ℕ → Result (List ℕ × C) RouteRefusal
  sending marks s d room = then (judged net.roster entries marks s d) (send_from room)

-- what send answers
abbrev pub send_answer : {C : Type 0} → Result (List ℕ × C) RouteRefusal → Result (C × ℕ) RouteRefusal
send_answer (Ok t) = Ok (t.1, length t.0 - 1)
send_answer (Err x) = Err x

-- what the list ws holds then
abbrev pub send_list : {C : Type 0} → List ℕ → Result (List ℕ × C) RouteRefusal → List ℕ
send_list ws (Ok t) = t.0 ++ drop (length t.0) ws
send_list ws (Err x) = ws
