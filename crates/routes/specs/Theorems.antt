-- What is proved of the answers. Assumes nothing.
use Rattle.std.specs.Prelude.{◌≡◌, ℕ, ◌*◌, ◌≤◌, List, length, Ok}
use Rattle.network.specs.declared.types.Link.{Link}
use Rattle.network.specs.Sound.{Sound}
use Rattle.measure.specs.Measures.{Measure}
use Rattle.legality.specs.declared.types.Class.{Class}
use Rattle.legality.specs.Networks.{Network, net_of}
use Rattle.table.specs.declared.types.Entry.{Entry}
use Rattle.routes.specs.Raw.{hop_answer, sending, send_answer, send_list}
use Rattle.routes.specs.Routes.{Hops, Sends, Holds}

-- Over a memory that is right where it is marked, hop answers what it must ..
abbrev pub HopsRight : {C : Type 0} → Measure C → Type 0
HopsRight {C} m =
    (roster : List ℕ) (book : List Link) (settled : List ℕ) (entries : List (Entry C)) (marks : List ℕ) → Sound roster book → Holds m roster book settled entries marks →
    (s : ℕ) (e : Class) (d : ℕ) → Hops m roster book settled s e d (hop_answer m (net_of roster book) entries marks s e d)

-- .. and so does send.
abbrev pub SendsRight : {C : Type 0} → Measure C → Type 0
SendsRight {C} m =
    (roster : List ℕ) (book : List Link) (settled : List ℕ) (entries : List (Entry C)) (marks : List ℕ) → Sound roster book → Holds m roster book settled entries marks →
    (s d : ℕ) (ws : List ℕ) → Sends m roster book settled s d ws (send_answer (sending m (net_of roster book) entries marks s d (length ws))) (send_list ws (sending m (net_of roster book) entries marks s d (length ws)))

-- Over any memory, send writes no more than 2 · n ASes.
abbrev pub SendsFew : {C : Type 0} → Measure C → Type 0
SendsFew {C} m =
    (net : Network) (entries : List (Entry C)) (marks : List ℕ) (s d room : ℕ) (p : List ℕ) (c : C) → sending m net entries marks s d room ≡ Ok (p, c) → length p ≤ 2 * length net.roster
