-- On a column with the shortest paths, the walk of the raw entries is the walk of the table. Assumes nothing.
use Rattle.std.proofs.Common.{◌≡◌, ℕ, zero, suc, ◌<◌, ◌≤◌, true, false, ◌≢◌, ◌⊎◌, List, [], ◌∷◌, length, get_or, Some, Ok, sym, ap, ◌∙◌, inl, inr, arith}
use Rattle.std.proofs.lemmas.Option.{slice_get-get_or, same_Some}
use Rattle.std.proofs.lemmas.Bool.{cases_eq}
use Rattle.network.specs.declared.types.Relation.{Relation}
use Rattle.network.specs.declared.types.Figures.{Figures}
use Rattle.network.specs.declared.types.Link.{Link}
use Rattle.network.specs.Rosters.{Among, place}
use Rattle.network.specs.Sound as store
use Rattle.network.proofs.Somes.{same_pair}
use Rattle.network.proofs.Rising.{Rising, rising, place_stands, place_at, rising_inj, stands_among}
use Rattle.measure.specs.Measures.{Measure, Laws}
use Rattle.legality.specs.declared.types.Class.{Class}
use Rattle.legality.specs.Classes.{allowed}
use Rattle.legality.specs.Networks.{Network, Sound, net_of}
use Rattle.legality.specs.Paths.{First}
use Rattle.legality.specs.Tables.{Table, Local, Follows, Chosen}
use Rattle.legality.proofs.Entries.{chosen_at, shortest_at}
use Rattle.legality.proofs.Global.{global_is_local}
use Rattle.legality.proofs.Links.{network_sound}
use Rattle.table.specs.declared.types.Entry.{Entry}
use Rattle.table.specs.Columns.{blank, read, at_place}
use Rattle.table.specs.Memory.{index, decoded, Column}
use Rattle.table.proofs.Rows.{read_some, read_filled, row_below}
use Rattle.routes.specs.Raw.{before, pays, entry_at, owed, next_of, walk}
use Rattle.routes.specs.Routes.{Walks}
use Rattle.routes.proofs.Walked.{there, goes}

module _ {C : Type 0} (m : Measure C) (laws : Laws m) (roster : List ℕ) (book : List Link) (store_sound : store.Sound roster book)
    (entries : List (Entry C)) (d j : ℕ) (here : place roster d ≡ Some j) (column : Column m roster book entries d j) where
  abbrev net : Network
  net = net_of roster book

  abbrev t : Table C
  t = decoded m roster j entries

  abbrev name : ℕ → ℕ
  name i = get_or roster i 0

  abbrev entry : ℕ → Class → Entry C
  entry i e = entry_at m net entries j i e

  sound : Sound net
  sound = network_sound roster book store_sound

  pub local : Local m (net_of roster book) (decoded m roster j entries) d
  local = global_is_local laws sound t d column.shortest

  up : Rising roster
  up = rising 0 roster store_sound.rising

  to_is : name j ≡ d
  to_is = (place_stands roster d j here).is

  to_below : j < length roster
  to_below = (place_stands roster d j here).within

  pub same_place : (i : ℕ) → i < length roster → get_or roster i 0 ≡ d → i ≡ j
  same_place i h e = rising_inj roster up i j h to_below (e ∙ sym to_is)

  pub table_at : (i : ℕ) (e : Class) → i < length roster → decoded m roster j entries (get_or roster i 0) e ≡ read roster (entry_at m (net_of roster book) entries j i e)
  table_at i e h = ap (λ o. at_place o (λ k. read roster (get_or entries (index (length roster) j k e) (blank m.start)))) (place_at roster up i h)

  pub owed_is : (i : ℕ) (e : Class) (b : ℕ) (c : C) → i < length roster → decoded m roster j entries (get_or roster i 0) e ≡ Some (b, c) → owed m (net_of roster book) entries j i e ≡ c
  owed_is i e b c h q = go (cases_eq i j)
    where
      go : (i ≡ j) ⊎ (i ≢ j) → owed m net entries j i e ≡ c
      go (inl y) =
          let arrived : t (name i) e ≡ Some (d, m.start) = ap (λ a. t a e) (ap name y ∙ to_is) ∙ column.shortest.arrived e in
          let start = (same_pair arrived q).1 in
          grind (arith, y, start)
      go (inr n) = let cost = (read_some roster (entry i e) b c (sym (table_at i e h) ∙ q)).2 in grind (arith, n, cost)

  -- the step that the table tells is right by the raw entries
  next_is : (i : ℕ) (e : Class) → i < length roster → i ≢ j → (c : C) (w : Relation) (f : Figures) (e' : Class) → (entry i e).next < length roster →
      net.step (name i) (name (entry i e).next) ≡ Some (w, f) → allowed e w ≡ Some e' → Chosen m net t (name i) e (name (entry i e).next) (entry i e).cost → next_of m net entries j i e ≡ Some ((entry i e).next, e')
  next_is i e h away c w f e' low linked ok best =
      let here = slice_get-get_or roster i 0 h in
      let there = slice_get-get_or roster k 0 low in
      grind (arith, here, there, linked, ok, paid)
    where
      k : ℕ
      k = (entry i e).next

      v : C
      v = (entry i e).cost

      paid : pays m v (owed m net entries j k e') f ≡ true
      paid =
          let o = best.offered in
          let same = same_pair o.linked linked in
          let class : o.class ≡ e' = same_Some _ _ (sym o.permitted ∙ ap (allowed e) same.0 ∙ ok) in
          let base : owed m net entries j k e' ≡ o.base = owed_is k e' o.next o.base low (ap (t (name k)) (sym class) ∙ o.entry) in
          let worth : v ≡ m.extend (owed m net entries j k e') f = o.worth ∙ ap (m.extend o.base) same.1 ∙ ap (λ z. m.extend z f) (sym base) in
          let equal : m.less v v ≡ false = laws.irreflexive v in
          let within : m.within (owed m net entries j k e') ≡ true = ap m.within base ∙ o.within in
          grind (arith, best.within, within, worth, equal)

  -- the walk of the entries is the list that follows the table
  pub walk_is : (p : List ℕ) (k i : ℕ) (e : Class) → i < length roster → First (get_or roster i 0) p → Follows (net_of roster book) (decoded m roster j entries) d e p → length p ≤ k →
      walk m (net_of roster book) entries k j i e ≡ Ok p
  walk_is [] k i e h f g l = absurd f
  walk_is (a ∷ []) zero i e h f g l = absurd (omega arith)
  walk_is (a ∷ (b ∷ r)) zero i e h f g l = absurd (omega arith)
  walk_is (a ∷ []) (suc k) i e h f g l = there m net entries j k i e (same_place i h (sym f ∙ g)) ∙ ap (λ x. Ok (x ∷ [])) (sym f)
  walk_is (a ∷ (b ∷ r)) (suc k) i e h f g l =
      let away : i ≢ j = λ z. g.0 (f ∙ ap name z ∙ to_is) in
      let x = entry i e in
      let told = read_some roster x b g.1.0 (sym (table_at i e h) ∙ ap (λ v. t v e) (sym f) ∙ g.1.1) in
      let low : x.next < length roster = row_below m.start (length roster) x (column.rows i e h) told.0 in
      let s = g.2 in
      let near : Among (name i) roster = stands_among roster i h in
      let entry_is : t (name i) e ≡ Some (name x.next, x.cost) = table_at i e h ∙ read_filled roster x told.0 in
      let best : Chosen m net t (name i) e (name x.next) x.cost = chosen_at (local.elsewhere (name i) near (λ z. away (same_place i h z)) e) entry_is in
      let linked : net.step (name i) (name x.next) ≡ Some (s.0, s.1) = ap (net.step (name i)) told.1 ∙ ap (λ v. net.step v b) (sym f) ∙ s.3 in
      goes m net entries j k i e x.next s.2 away (next_is i e h away x.cost s.0 s.1 s.2 low linked s.4 best) ∙
      ap (before (name i)) (walk_is (b ∷ r) k x.next s.2 low (sym told.1) s.5 (omega arith)) ∙ ap (λ v. Ok (v ∷ (b ∷ r))) (sym f)

  -- the list that follows the table walks the shortest entries
  pub walks_is : (p : List ℕ) (e : Class) → Follows (net_of roster book) (decoded m roster j entries) d e p → Walks m (net_of roster book) d e p
  walks_is [] e g = g
  walks_is (a ∷ []) e g = g
  walks_is (a ∷ (b ∷ r)) e g =
      let s = g.2 in
      let near : Among a roster = sound.near_end a b s.0 s.1 s.3 in
      (g.0, (g.1.0, shortest_at (column.shortest.elsewhere a near g.0 e) g.1.1), (s.0, s.1, s.2, s.3, s.4, walks_is (b ∷ r) s.2 s.5))
