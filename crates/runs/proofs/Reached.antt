-- The entries that a settle counts are those of the pairs of AS and class that have a route. Assumes nothing.
use Rattle.std.proofs.Common.{◌≡◌, ℕ, suc, ◌+◌, ◌*◌, ◌<◌, ◌≤◌, Bool, true, false, cond, not, eqb, ltb, ◌≢◌, ◌⊎◌, List, [], ◌∷◌, length, get_or, drop, is_some, Some, None, sym, refl, ap, ◌∙◌, subst, inl, inr, mul-le-mul_left, mul-suc, arith}
use Rattle.std.proofs.lemmas.List.{length-take-le, length-drop, get_or-take, get_or-drop}
use Rattle.std.proofs.lemmas.List.Sums.{sum_by-cons}
use Rattle.std.proofs.lemmas.Bool.{cases_Bool, cases_eq, and_parts, ltb-true}
use Rattle.network.specs.declared.types.Link.{Link}
use Rattle.network.specs.Rosters.{Among, climbs, place}
use Rattle.network.specs.Sound.{Sound}
use Rattle.network.proofs.Options.{some_from, none_from}
use Rattle.network.proofs.Rising.{rising, place_at, place_stands}
use Rattle.measure.specs.Measures.{Measure}
use Rattle.legality.specs.declared.types.Class.{Class}
use Rattle.legality.specs.declared.types.Class.TheVariants.{Home, Outside}
use Rattle.legality.specs.Networks.{Network, net_of}
use Rattle.legality.specs.Paths.{Distinct, Chain, First, Route}
use Rattle.legality.specs.Tables.{Table}
use Rattle.legality.proofs.Entries.{shortest_at, no_path_at}
use Rattle.legality.proofs.Steps.{stay}
use Rattle.table.specs.declared.types.Entry.{Entry}
use Rattle.table.specs.Columns.{blank, read, pair, at_place, filled}
use Rattle.table.specs.Memory.{index, decoded, column_of, Column}
use Rattle.table.proofs.Cells.{index_is}
use Rattle.table.proofs.Pairs.{pair_below}
use Rattle.runs.specs.Runs.{Reaches}

among_above : (below : ℕ) (xs : List ℕ) → climbs below xs ≡ true → (y : ℕ) → Among y xs → below < y
among_above below [] h y a = absurd a
among_above below (x ∷ xs) h y (inl e) = let low = ltb-true below x (and_parts (ltb below x) (climbs x xs) h).0 in omega arith
among_above below (x ∷ xs) h y (inr a) =
    let both = and_parts (ltb below x) (climbs x xs) h in
    let low = ltb-true below x both.0 in
    let more = among_above x xs both.1 y a in
    omega arith

distinct : (below : ℕ) (xs : List ℕ) → climbs below xs ≡ true → Distinct xs
distinct below [] h = tt
distinct below (x ∷ xs) h = let more = (and_parts (ltb below x) (climbs x xs) h).1 in (λ a. let low = among_above x xs more x a in omega arith, distinct x xs more)

-- one more in front, if a test says so
abbrev when : {X : Type 0} → Bool → X → List X → List X
when true x xs = x ∷ xs
when false x xs = xs

module _ {X : Type 0} where
  when_in : (b : Bool) (x y : X) (xs : List X) → Among y (when b x xs) → ((y ≡ x) × (b ≡ true)) ⊎ Among y xs
  when_in true x y xs (inl e) = inl (e, refl)
  when_in true x y xs (inr a) = inr a
  when_in false x y xs a = inr a

  in_when : (b : Bool) (x y : X) (xs : List X) → ((y ≡ x) × (b ≡ true)) ⊎ Among y xs → Among y (when b x xs)
  in_when true x y xs (inl h) = inl h.0
  in_when true x y xs (inr a) = inr a
  in_when false x y xs (inl h) = cc
  in_when false x y xs (inr a) = a

  when_once : (b : Bool) (x : X) (xs : List X) → ¬ Among x xs → Distinct xs → Distinct (when b x xs)
  when_once true x xs n d = (n, d)
  when_once false x xs n d = d

  when_length : (b : Bool) (x : X) (xs : List X) → length (when b x xs) ≡ cond b 1 0 + length xs
  when_length true x xs = omega arith
  when_length false x xs = omega arith

-- The pairs of AS and class that a function g picks.
module _ (g : ℕ → Class → Bool) where
  pairs : List ℕ → List (ℕ × Class)
  pairs [] = []
  pairs (a ∷ bs) = when (g a Home) (a, Home) (when (g a Outside) (a, Outside) (pairs bs))

  pairs_in : (bs : List ℕ) (a : ℕ) (e : Class) → Among (a, e) (pairs bs) → Among a bs × (g a e ≡ true)
  unfolding pairs
  pairs_in [] a e h = absurd h
  pairs_in (x ∷ bs) a e h = go (when_in (g x Home) (x, Home) (a, e) (when (g x Outside) (x, Outside) (pairs bs)) h) (pairs_in bs a e)
    where
      is : (f : Class) → ◌≡◌ {A = ℕ × Class} (a, e) (x, f) → g x f ≡ true → Among a (x ∷ bs) × (g a e ≡ true)
      is f p q = (inl (ap (λ z. z.0) p), ap (λ z. g z.0 z.1) p ∙ q)

      Rest : Type 0
      Rest = Among (a, e) (pairs bs) → Among a bs × (g a e ≡ true)

      more : ((◌≡◌ {A = ℕ × Class} (a, e) (x, Outside)) × (g x Outside ≡ true)) ⊎ Among (a, e) (pairs bs) → Rest → Among a (x ∷ bs) × (g a e ≡ true)
      more (inl p) rest = is Outside p.0 p.1
      more (inr m) rest = let z = rest m in (inr z.0, z.1)

      go : ((◌≡◌ {A = ℕ × Class} (a, e) (x, Home)) × (g x Home ≡ true)) ⊎ Among (a, e) (when (g x Outside) (x, Outside) (pairs bs)) → Rest → Among a (x ∷ bs) × (g a e ≡ true)
      go (inl p) rest = is Home p.0 p.1
      go (inr m) rest = more (when_in (g x Outside) (x, Outside) (a, e) (pairs bs) m) rest

  in_pairs : (bs : List ℕ) (a : ℕ) (e : Class) → Among a bs → g a e ≡ true → Among (a, e) (pairs bs)
  unfolding pairs
  in_pairs [] a e m h = absurd m
  in_pairs (x ∷ bs) a Home (inl p) h = in_when (g x Home) (x, Home) (a, Home) (when (g x Outside) (x, Outside) (pairs bs)) (inl (ap (λ z. (z, Home)) p, ap (λ z. g z Home) (sym p) ∙ h))
  in_pairs (x ∷ bs) a Outside (inl p) h =
      in_when (g x Home) (x, Home) (a, Outside) (when (g x Outside) (x, Outside) (pairs bs))
      (inr (in_when (g x Outside) (x, Outside) (a, Outside) (pairs bs) (inl (ap (λ z. (z, Outside)) p, ap (λ z. g z Outside) (sym p) ∙ h))))
  in_pairs (x ∷ bs) a e (inr m) h =
      in_when (g x Home) (x, Home) (a, e) (when (g x Outside) (x, Outside) (pairs bs)) (inr (in_when (g x Outside) (x, Outside) (a, e) (pairs bs) (inr (in_pairs bs a e m h))))

  pairs_once : (bs : List ℕ) → Distinct bs → Distinct (pairs bs)
  unfolding pairs
  pairs_once [] d = tt
  pairs_once (x ∷ bs) d =
      when_once (g x Home) (x, Home) (when (g x Outside) (x, Outside) (pairs bs)) (λ m. apart (when_in (g x Outside) (x, Outside) (x, Home) (pairs bs) m))
      (when_once (g x Outside) (x, Outside) (pairs bs) (λ m. d.0 (pairs_in bs x Outside m).0) (pairs_once bs d.1))
    where
      apart : ((◌≡◌ {A = ℕ × Class} (x, Home) (x, Outside)) × (g x Outside ≡ true)) ⊎ Among (x, Home) (pairs bs) → ⊥
      apart (inl p) = cc (ap (λ q. q.1) p.0)
      apart (inr m) = d.0 (pairs_in bs x Home m).0

  -- as many as the entries of a column that are not blank, where those are picked
  pairs_length : {C : Type 0} (s : Entry C) (bs : List ℕ) (column : List (Entry C)) → length column ≡ 2 * length bs →
      ((i : ℕ) (e : Class) → i < length bs → not (eqb (get_or column (pair i e) s).next 65535) ≡ g (get_or bs i 0) e) → length (pairs bs) ≡ filled column
  unfolding pairs
  pairs_length s [] [] l h = refl
  pairs_length s [] (x ∷ column) l h = absurd (omega arith)
  pairs_length s (a ∷ bs) [] l h = absurd (omega arith)
  pairs_length s (a ∷ bs) (x ∷ []) l h = absurd (omega arith)
  pairs_length {C} s (a ∷ bs) (x ∷ (y ∷ column)) l h =
      let more = pairs_length s bs column (omega arith) (λ i e low. ap (λ k. not (eqb (get_or (x ∷ (y ∷ column)) k s).next 65535)) (next i e) ∙ h (suc i) e (omega arith)) in
      let front = when_length (g a Home) (a, Home) (when (g a Outside) (a, Outside) (pairs bs)) in
      let second = when_length (g a Outside) (a, Outside) (pairs bs) in
      let count : Entry C → ℕ = λ z. cond (not (eqb z.next 65535)) 1 0 in
      let one = ap (λ b. cond {A = ℕ} b 1 0) (h 0 Home (omega arith)) in
      let two = ap (λ b. cond {A = ℕ} b 1 0) (h 0 Outside (omega arith)) in
      let sum = sum_by-cons count x (y ∷ column) in
      let sum' = sum_by-cons count y column in
      omega (arith, more, front, second, one, two, sum, sum')
    where
      next : (i : ℕ) (e : Class) → suc (suc (pair i e)) ≡ pair (suc i) e
      next i e = omega arith

filled_some : (b : Bool) {X : Type 0} (x : X) → not b ≡ is_some (cond b None (Some x))
filled_some true x = refl
filled_some false x = refl

first_among : (net : Network) (a : ℕ) (q : List ℕ) → Chain net q → First a q → Among a net.roster
first_among net a [] c f = absurd f
first_among net a (x ∷ []) c f = subst (λ v. Among v net.roster) f c
first_among net a (x ∷ (y ∷ r)) c f = subst (λ v. Among v net.roster) f c.0

-- a right column of a memory that is large enough, and how many of its entries are not blank
pub reaches : {C : Type 0} (m : Measure C) (roster : List ℕ) (book : List Link) → Sound roster book → (entries : List (Entry C)) → 2 * length roster * length roster ≤ length entries → (d j : ℕ) →
    place roster d ≡ Some j → Column m roster book entries d j → Reaches (net_of roster book) d (filled (column_of (length roster) j entries))
reaches {C} m roster book sound entries large d j here column =
    record {
      pairs = pairs g roster;
      once = pairs_once g roster (distinct 0 roster sound.rising);
      routed = λ a e h. let z = pairs_in g roster a e h in some_route a e z.0 (some_from (t a e) z.1);
      all = λ a e q h. let near = first_among net a q h.legal.path.chain h.first in in_pairs g roster a e near (some_entry a e near q h (cases_Bool (g a e)));
      counted = pairs_length g s roster (column_of n j entries) long full;
    }
  where
    net : Network
    net = net_of roster book

    n : ℕ
    n = length roster

    s : Entry C
    s = blank m.start

    t : Table C
    t = decoded m roster j entries

    g : ℕ → Class → Bool
    g a e = is_some (t a e)

    some_route : (a : ℕ) (e : Class) → Among a roster → (x : ℕ × C) × (t a e ≡ Some x) → (q : List ℕ) × Route net e a d q
    some_route a e near x = go (cases_eq a d)
      where
        go : (a ≡ d) ⊎ (a ≢ d) → (q : List ℕ) × Route net e a d q
        go (inl z) = (a ∷ [], stay net e a d near z)
        go (inr z) = let best = shortest_at (column.shortest.elsewhere a near z e) x.1 in (best.path, best.route)

    some_entry : (a : ℕ) (e : Class) → Among a roster → (q : List ℕ) → Route net e a d q → (g a e ≡ true) ⊎ (g a e ≡ false) → g a e ≡ true
    some_entry a e near q h (inl z) = z
    some_entry a e near q h (inr z) = go (cases_eq a d)
      where
        go : (a ≡ d) ⊎ (a ≢ d) → g a e ≡ true
        go (inl y) = ap (λ v. g v e) y ∙ ap is_some (column.shortest.arrived e)
        go (inr y) = absurd (no_path_at (column.shortest.elsewhere a near y e) (none_from (t a e) z) q h)

    low : j < n
    low = (place_stands roster d j here).within

    long : length (column_of n j entries) ≡ 2 * n
    long =
        let le : 2 * n * suc j ≤ 2 * n * n = mul-le-mul_left (2 * n) low in
        length-take-le (2 * n) (drop (2 * n * j) entries) (omega (arith, length-drop (2 * n * j) entries, mul-suc (2 * n) j, le, large))

    full : (i : ℕ) (e : Class) → i < n → not (eqb (get_or (column_of n j entries) (pair i e) s).next 65535) ≡ g (get_or roster i 0) e
    full i e h =
        let x : Entry C = get_or entries (index n j i e) s in
        let cell : get_or (column_of n j entries) (pair i e) s ≡ x = get_or-take (2 * n) (drop (2 * n * j) entries) (pair i e) s (pair_below i n e h) ∙ get_or-drop (2 * n * j) entries (pair i e) s ∙ ap (λ k. get_or entries k s) (sym (index_is n j i e)) in
        let told : t (get_or roster i 0) e ≡ read roster x = ap (λ o. at_place o (λ k. read roster (get_or entries (index n j k e) s))) (place_at roster (rising 0 roster sound.rising) i h) in
        ap (λ z. not (eqb z.next 65535)) cell ∙ filled_some (eqb x.next 65535) (get_or roster x.next 0, x.cost) ∙ sym (ap is_some told)
