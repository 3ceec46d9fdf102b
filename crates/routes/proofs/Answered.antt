-- Over a memory that is right where it is marked, hop and send answer what they must. Assumes nothing.
use Rattle.std.proofs.Common.{◌≡◌, ℕ, ◌+◌, ◌-◌, ◌*◌, ◌<◌, ◌≤◌, true, false, eqb, ◌≢◌, ◌⊎◌, List, [], ◌∷◌, length, get_or, Some, None, Ok, Err, Option, Result, sym, refl, ap, ◌∙◌, subst, inl, inr, arith, rules}
use Rattle.std.proofs.lemmas.Option.{slice_get-get_or}
use Rattle.std.proofs.lemmas.Bool.{cases_Bool, cases_eq, cases_lt, eqb-true, cond-false}
use Rattle.network.specs.declared.types.Link.{Link}
use Rattle.network.specs.Rosters.{Among, place}
use Rattle.network.specs.Sound as store
use Rattle.network.proofs.Rising.{Stands, place_stands, stands_among}
use Rattle.network.proofs.Somes.{same_pair}
use Rattle.measure.specs.Measures.{Measure, Laws, AtMost}
use Rattle.legality.specs.declared.types.Class.{Class}
use Rattle.legality.specs.declared.types.Class.TheVariants.{Home}
use Rattle.legality.specs.Networks.{Network, net_of}
use Rattle.legality.specs.Paths.{Route, First, cost}
use Rattle.legality.specs.Tables.{Walk}
use Rattle.legality.proofs.Entries.{shortest_at, no_path_at}
use Rattle.legality.proofs.Local.{optimal}
use Rattle.legality.proofs.Walks.{walk}
use Rattle.legality.proofs.Links.{network_sound}
use Rattle.table.specs.declared.types.Entry.{Entry}
use Rattle.table.specs.declared.types.RouteRefusal.{RouteRefusal}
use Rattle.table.specs.declared.types.RouteRefusal.TheVariants.{TableTooSmall, UnknownAs, NotSettled, NoPath, ListTooShort}
use Rattle.table.specs.Memory.{small, decoded, Column}
use Rattle.table.specs.Columns.{read}
use Rattle.table.proofs.Rows.{read_blank, read_filled, row_below}
use Rattle.routes.specs.Raw.{walk as raw_walk, path_from, spots, judged, entry_at, hop_answer, owed, sending, send_answer, send_list}
use Rattle.routes.specs.Routes.{refusal, Walks, Hops, Sends, Holds}
use Rattle.routes.proofs.Right.{local, same_place, table_at, owed_is, walk_is, walks_is}

module _ {C : Type 0} (m : Measure C) (laws : Laws m) (roster : List ℕ) (book : List Link) (sound : store.Sound roster book)
    (settled : List ℕ) (entries : List (Entry C)) (marks : List ℕ) (holds : Holds m roster book settled entries marks) where
  abbrev net : Network
  net = net_of roster book

  -- what is known of the places i and j of s and d, where d is settled
  record Asked (s d i j : ℕ) : Type 0 where
    here : place roster d ≡ Some j
    column : Column m roster book entries d j
    source : Stands roster s i
    near : Among s roster
    table : (e : Class) → decoded m roster j entries s e ≡ read roster (entry_at m (net_of roster book) entries j i e)
    same : i ≡ j → s ≡ d
    away : i ≢ j → s ≢ d

  asked : (s d i j : ℕ) → place roster s ≡ Some i → place roster d ≡ Some j → get_or marks j 0 ≡ 1 → Asked s d i j
  asked s d i j hs hd marked =
      let column = holds.right d j hd marked in
      let source = place_stands roster s i hs in
      record {
        here = hd;
        column = column;
        source = source;
        near = subst (λ a. Among a roster) source.is (stands_among roster i source.within);
        table = λ e. ap (λ a. decoded m roster j entries a e) (sym source.is) ∙ table_at m laws roster book sound entries d j hd column i e source.within;
        same = λ y. sym source.is ∙ ap (λ k. get_or roster k 0) y ∙ (place_stands roster d j hd).is;
        away = λ n z. n (same_place m laws roster book sound entries d j hd column i source.within (source.is ∙ z));
      }

  -- a question is refused for its first cause, or accepted
  data Cause (s d : ℕ) : Type 0 where
    refused : (x : RouteRefusal) → judged roster entries marks s d ≡ Err x → refusal roster settled s d ≡ Some x → Cause s d
    accepted : (i j : ℕ) → judged roster entries marks s d ≡ Ok (i, j) → refusal roster settled s d ≡ None → Asked s d i j → Cause s d

  cause : (s d : ℕ) → Cause s d
  cause s d = go (place roster s) refl (place roster d) refl
    where
      large : judged roster entries marks s d ≡ spots (place roster s) (place roster d) marks
      large = cond-false (small (length roster) entries marks) (Err TableTooSmall) (spots (place roster s) (place roster d) marks) holds.enough

      go : (o : Option ℕ) → place roster s ≡ o → (q : Option ℕ) → place roster d ≡ q → Cause s d
      go None hs q hd = Cause.refused UnknownAs (large ∙ ap (λ o. spots o (place roster d) marks) hs) (search (rules, hs))
      go (Some i) hs None hd = Cause.refused UnknownAs (search (rules, large, hs, hd)) (search (rules, hs, hd))
      go (Some i) hs (Some j) hd = at (cases_Bool (eqb (get_or marks j 0) 1))
        where
          at : (eqb (get_or marks j 0) 1 ≡ true) ⊎ (eqb (get_or marks j 0) 1 ≡ false) → Cause s d
          at (inl y) = let has_it = holds.marked d j hd ∙ y in Cause.accepted i j (search (rules, large, hs, hd, y)) (search (rules, hs, hd, has_it)) (asked s d i j hs hd (eqb-true (get_or marks j 0) 1 y))
          at (inr n) = let has_it = holds.marked d j hd ∙ n in Cause.refused NotSettled (grind (arith, large)) (grind arith)

  pub hops : (s : ℕ) (e : Class) (d : ℕ) → Hops m roster book settled s e d (hop_answer m (net_of roster book) entries marks s e d)
  hops s e d = go (cause s d)
    where
      Answer : Result (Option ℕ) RouteRefusal → Type 0
      Answer = Hops m roster book settled s e d

      is : (r : Result (Option ℕ) RouteRefusal) → hop_answer m net entries marks s e d ≡ r → Answer r → Answer (hop_answer m net entries marks s e d)
      is r h a = subst Answer (sym h) a

      go : Cause s d → Answer (hop_answer m net entries marks s e d)
      go (Cause.refused x h why) = is (Err x) (search (rules, h)) (Hops.refused x why)
      go (Cause.accepted i j h why k) = at (cases_eq i j) (cases_eq x.next 65535)
        where
          x : Entry C
          x = entry_at m net entries j i e

          at : (i ≡ j) ⊎ (i ≢ j) → (x.next ≡ 65535) ⊎ (x.next ≢ 65535) → Answer (hop_answer m net entries marks s e d)
          at (inl y) z = is (Ok None) (search (rules, h, y)) (Hops.there why (k.same y))
          at (inr n) (inl y) = is (Err NoPath) (grind (arith, h)) (Hops.shut why (k.away n) (no_path_at (k.column.shortest.elsewhere s k.near (k.away n) e) (k.table e ∙ read_blank roster x y)))
          at (inr n) (inr y) =
              let low : x.next < length roster = row_below m.start (length roster) x (k.column.rows i e k.source.within) y in
              let next = slice_get-get_or roster x.next 0 low in
              is (Ok (Some (get_or roster x.next 0))) (grind (arith, h, next)) (Hops.next (get_or roster x.next 0) x.cost why (k.away n) (shortest_at (k.column.shortest.elsewhere s k.near (k.away n) e) (k.table e ∙ read_filled roster x y)))

  pub sends : (s d : ℕ) (ws : List ℕ) → Sends m roster book settled s d ws (send_answer (sending m (net_of roster book) entries marks s d (length ws))) (send_list ws (sending m (net_of roster book) entries marks s d (length ws)))
  sends s d ws = go (cause s d)
    where
      Answer : Result (List ℕ × C) RouteRefusal → Type 0
      Answer r = Sends m roster book settled s d ws (send_answer r) (send_list ws r)

      is : (r : Result (List ℕ × C) RouteRefusal) → sending m net entries marks s d (length ws) ≡ r → Answer r → Answer (sending m net entries marks s d (length ws))
      is r h a = subst Answer (sym h) a

      go : Cause s d → Answer (sending m net entries marks s d (length ws))
      go (Cause.refused x h why) = is (Err x) (search (rules, h)) (Sends.refused x why)
      go (Cause.accepted i j h why k) = at (cases_eq i j) (cases_eq x.next 65535)
        where
          x : Entry C
          x = entry_at m net entries j i Home

          -- where the entry is filled
          walked : (b : ℕ) (c : C) → decoded m roster j entries s Home ≡ Some (b, c) → path_from m net entries (i, j) ≡ raw_walk m net entries (2 * length roster) j i Home → Answer (sending m net entries marks s d (length ws))
          walked b c filled starts = room (cases_lt (length ws) (length q))
            where
              w : Walk m net (decoded m roster j entries) d s Home c
              w = walk laws (network_sound roster book sound) (decoded m roster j entries) d (local m laws roster book sound entries d j k.here k.column) s Home b c k.near filled

              q : List ℕ
              q = w.ases

              walk_as : path_from m net entries (i, j) ≡ Ok q
              walk_as = starts ∙ walk_is m laws roster book sound entries d j k.here k.column q (2 * length roster) i Home k.source.within (subst (λ a. First a q) (sym k.source.is) w.route.first) w.follows (omega (arith, w.short))

              worth : owed m net entries j i Home ≡ cost m net q
              worth = owed_is m laws roster book sound entries d j k.here k.column i Home b c k.source.within (ap (λ a. decoded m roster j entries a Home) k.source.is ∙ filled) ∙ sym w.costs

              some : (p : List ℕ) → First s p → length p ≡ length p - 1 + 1
              some [] f = absurd f
              some (y ∷ p) f = omega arith

              steps : Walks m net d Home q
              steps = walks_is m laws roster book sound entries d j k.here k.column q Home w.follows

              least : (r : List ℕ) → Route net Home s d r → AtMost m (cost m net q) (cost m net r)
              least r h =
                  let best = optimal laws (network_sound roster book sound) (decoded m roster j entries) d (local m laws roster book sound entries d j k.here k.column) r Home s h in
                  subst (λ v. AtMost m v (cost m net r)) ((same_pair best.holds filled).1 ∙ sym w.costs) best.cheap

              room : (length ws < length q) ⊎ (length q ≤ length ws) → Answer (sending m net entries marks s d (length ws))
              room (inl l) = is (Err ListTooShort) (grind (arith, h, walk_as)) (Sends.long q why w.route steps l)
              room (inr l) = is (Ok (q, cost m net q)) (grind (arith, h, walk_as, worth)) (Sends.sent q (length q - 1) why w.route steps least (some q w.route.first) l)

          at : (i ≡ j) ⊎ (i ≢ j) → (x.next ≡ 65535) ⊎ (x.next ≢ 65535) → Answer (sending m net entries marks s d (length ws))
          at (inl y) z = walked d m.start (ap (λ a. decoded m roster j entries a Home) (k.same y) ∙ k.column.shortest.arrived Home) (grind arith)
          at (inr n) (inr y) = walked (get_or roster x.next 0) x.cost (k.table Home ∙ read_filled roster x y) (grind arith)
          at (inr n) (inl y) = is (Err NoPath) (grind (arith, h)) (Sends.shut why (no_path_at (k.column.shortest.elsewhere s k.near (k.away n) Home) (k.table Home ∙ read_blank roster x y)))
