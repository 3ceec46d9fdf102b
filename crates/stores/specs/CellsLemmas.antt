-- The cells of a grid store as a book. Assumes nothing.
use Rattle.std.specs.Prelude.{◌≡◌, ℕ, zero, suc, ◌+◌, ◌/◌, ◌%◌, ◌<◌, ◌≤◌, true, false, ◌&&◌, List, [], ◌∷◌, ◌++◌, length, take, drop, set, replicate, Some, None, Option, slice_index, slice_index_or, slice_set, refl}
use Rattle.std.proofs.Common.{sym, ap, subst, ◌∙◌, inl, inr, ⊎_elim, arith}
use Rattle.std.specs.List.{AllByRecursion}
use Rattle.std.specs.Option.{option_to_list}
use Rattle.std.proofs.lemmas.List.{length-take, set_split, set-get_or, drop_more}
use Rattle.std.proofs.lemmas.List.Concat.{flat_map-append}
use Rattle.std.proofs.ByRecursion.{All-weaker}
use Rattle.std.proofs.lemmas.Bool.{and_from, and_parts, cases_lt, ltb-true, lt-ltb, leb-true, eqb-true, eq-eqb}
use Rattle.network.specs.declared.types.Link.{Link}
use Rattle.network.specs.declared.types.Figures.{Figures}
use Rattle.network.specs.Rosters.{climbs}
use Rattle.network.specs.Limits.{in_limits, Limits}
use Rattle.network.specs.Books.{before, find, added, joins, recosted, without, with_figures}
use Rattle.network.specs.Sound.{Proper, InOrder}
use Rattle.network.proofs.Rising.{stands_among, rising as rises}
use Rattle.network.proofs.Books.{Earlier, earlier_before, earlier_not_before, Apart, joined, apart_earlier, apart_later, added_between, find_past, find_none, find_here, recosted_here, without_here}
use Rattle.stores.specs.Cells.{filled, fits_cell, fit}

pub filled_append : (xs ys : List (Option Link)) → filled (xs ++ ys) ≡ filled xs ++ filled ys
filled_append xs ys = flat_map-append option_to_list xs ys

pub filled_empty : (n : ℕ) → filled (replicate n None) ≡ []
filled_empty zero = refl
filled_empty (suc n) = filled_empty n

pub fit_empty : (roster : List ℕ) (k n : ℕ) → fit roster k (replicate n None) ≡ true
fit_empty roster k zero = refl
fit_empty roster k (suc n) = fit_empty roster (suc k) n

-- the pair of the ASes whose cell is k, if they were in any order
pub record Pair (roster : List ℕ) (k low high : ℕ) : Type 0 where
  pub row : k / 24 < length roster
  pub column : k % 24 < length roster
  pub low_is : low ≡ slice_index roster (k / 24)
  pub high_is : high ≡ slice_index roster (k % 24)

-- what a link that fits the cell k is
pub record Placed (roster : List ℕ) (k : ℕ) (l : Link) : Type 0 where
  pub ordered : k / 24 < k % 24
  pub pair : Pair roster k l.low l.high
  pub limits : Limits l.figures

pub limits_from : (f : Figures) → (in_limits f.delay && in_limits f.width) ≡ true → Limits f
limits_from f e =
    let both = and_parts _ _ e in
    let d = and_parts _ _ both.0 in
    let w = and_parts _ _ both.1 in
    record { delay_low = leb-true _ _ d.0; delay_high = leb-true _ _ d.1; width_low = leb-true _ _ w.0; width_high = leb-true _ _ w.1 }

module _ (roster : List ℕ) where
  pub placed : (k : ℕ) (l : Link) → fits_cell roster k l ≡ true → Placed roster k l
  placed k l e =
      let a = and_parts _ _ e in
      let b = and_parts _ _ a.1 in
      let c = and_parts _ _ b.1 in
      let d = and_parts _ _ c.1 in
      let i : k / 24 < k % 24 = ltb-true _ _ a.0 in
      let j : k % 24 < length roster = ltb-true _ _ b.0 in
      let pair : Pair roster k l.low l.high = record { row = omega arith; column = j; low_is = eqb-true _ _ c.0; high_is = eqb-true _ _ d.0 } in
      record { ordered = i; pair = pair; limits = limits_from l.figures d.1 }

module _ (roster : List ℕ) (rising : climbs 0 roster ≡ true) where
  -- pairs stand in the order of their cells
  pub earlier : (k n low high low' high' : ℕ) → k < n → Pair roster k low high → Pair roster n low' high' → Earlier low high low' high'
  earlier k n low high low' high' h p q =
      ⊎_elim
      (λ (r : k / 24 < n / 24).
      let up = rises 0 roster rising (k / 24) (n / 24) r q.row in
      let lows = p.low_is in
      let lows' = q.low_is in
      inl (omega arith))
      (λ (r : n / 24 ≤ k / 24).
      let same : k / 24 ≡ n / 24 = omega arith in
      let right : k % 24 < n % 24 = omega arith in
      let up = rises 0 roster rising (k % 24) (n % 24) right q.column in
      let highs = p.high_is in
      let highs' = q.high_is in
      inr (p.low_is ∙ ap (λ i. slice_index roster i) same ∙ sym q.low_is, omega arith))
      (cases_lt (k / 24) (n / 24))

  fit_rest : (k : ℕ) (v : Option Link) (cells : List (Option Link)) → fit roster k (v ∷ cells) ≡ true → fit roster (suc k) cells ≡ true
  fit_rest k None cells e = e
  fit_rest k (Some l) cells e = (and_parts _ _ e).1

  fit_first : (k : ℕ) (l : Link) (cells : List (Option Link)) → fit roster k (Some l ∷ cells) ≡ true → Placed roster k l
  fit_first k l cells e = placed roster k l (and_parts _ _ e).0

  -- the link in a cell
  pub fit_at : (k n m : ℕ) (cells : List (Option Link)) (l : Link) → k + n ≡ m → fit roster k cells ≡ true → slice_index_or cells n None ≡ Some l → Placed roster m l
  fit_at k n m [] l s e h = let z : ◌≡◌ {A = ℕ} 0 1 = cc in absurd (omega arith)
  fit_at k zero m (None ∷ cells) l s e h = let z : ◌≡◌ {A = ℕ} 0 1 = cc in absurd (omega arith)
  fit_at k zero m (Some x ∷ cells) l s e h =
      let is : x ≡ l = cc in
      let here : k ≡ m = omega arith in
      subst (λ y. Placed roster m y) is (subst (λ j. Placed roster j x) here (fit_first k x cells e))
  fit_at k (suc n) m (v ∷ cells) l s e h = fit_at (suc k) n m cells l (omega arith) (fit_rest k v cells e) h

  -- a write to a cell of what it may hold
  pub fit_set : (k n m : ℕ) (cells : List (Option Link)) (v : Option Link) → k + n ≡ m → fit roster k cells ≡ true → fit roster m (v ∷ []) ≡ true → fit roster k (slice_set cells n v) ≡ true
  fit_set k n m [] v s e h = refl
  fit_set k zero m (c ∷ cells) None s e h = fit_rest k c cells e
  fit_set k zero m (c ∷ cells) (Some l) s e h =
      let here : m ≡ k = omega arith in
      and_from _ _ (subst (λ j. fits_cell roster j l ≡ true) here (and_parts _ _ h).0) (fit_rest k c cells e)
  fit_set k (suc n) m (None ∷ cells) v s e h = fit_set (suc k) n m cells v (omega arith) e h
  fit_set k (suc n) m (Some l ∷ cells) v s e h =
      let parts = and_parts _ _ e in
      and_from _ _ parts.0 (fit_set (suc k) n m cells v (omega arith) parts.1 h)

  pub cells_proper : (k : ℕ) (cells : List (Option Link)) → fit roster k cells ≡ true → AllByRecursion (Proper roster) (filled cells)
  cells_proper k [] e = tt
  cells_proper k (None ∷ cells) e = cells_proper (suc k) cells e
  cells_proper k (Some l ∷ cells) e = (proper (fit_first k l cells e), cells_proper (suc k) cells (fit_rest k (Some l) cells e))
    where
      proper : Placed roster k l → Proper roster l
      proper p =
          let q = p.pair in
          let up = rises 0 roster rising (k / 24) (k % 24) p.ordered q.column in
          let lows = q.low_is in
          let highs = q.high_is in
          record {
            ordered = omega arith;
            low_known = rw q.low_is (stands_among roster (k / 24) q.row);
            high_known = rw q.high_is (stands_among roster (k % 24) q.column);
            limits = p.limits;
          }

  module _ (m low high : ℕ) (pair : Pair roster m low high) where
    -- the links in the cells before the cell m ..
    front : (k n : ℕ) (cells : List (Option Link)) → k + n ≤ m → fit roster k cells ≡ true → AllByRecursion (λ l. Earlier l.low l.high low high) (filled (take n cells))
    front k zero cells s e = tt
    front k (suc n) [] s e = tt
    front k (suc n) (None ∷ cells) s e = front (suc k) n cells (omega arith) e
    front k (suc n) (Some l ∷ cells) s e =
        (earlier k m l.low l.high low high (omega arith) (fit_first k l cells e).pair pair, front (suc k) n cells (omega arith) (fit_rest k (Some l) cells e))

    -- .. and in those after it
    back : (k : ℕ) (cells : List (Option Link)) → m < k → fit roster k cells ≡ true → AllByRecursion (λ l. Earlier low high l.low l.high) (filled cells)
    back k [] s e = tt
    back k (None ∷ cells) s e = back (suc k) cells (omega arith) e
    back k (Some l ∷ cells) s e =
        (earlier m k low high l.low l.high s pair (fit_first k l cells e).pair, back (suc k) cells (omega arith) (fit_rest k (Some l) cells e))

    back_drop : (k n : ℕ) (cells : List (Option Link)) → m < k + n → fit roster k cells ≡ true → AllByRecursion (λ l. Earlier low high l.low l.high) (filled (drop n cells))
    back_drop k zero cells s e = back k cells (omega arith) e
    back_drop k (suc n) [] s e = tt
    back_drop k (suc n) (c ∷ cells) s e = back_drop (suc k) n cells (omega arith) (fit_rest k c cells e)

  pub cells_in_order : (k : ℕ) (cells : List (Option Link)) → fit roster k cells ≡ true → InOrder (filled cells)
  cells_in_order k [] e = tt
  cells_in_order k (None ∷ cells) e = cells_in_order (suc k) cells e
  cells_in_order k (Some l ∷ cells) e =
      let rest = fit_rest k (Some l) cells e in
      let after = back k l.low l.high (fit_first k l cells e).pair (suc k) cells (omega arith) rest in
      (All-weaker (λ x. Earlier l.low l.high x.low x.high) (λ x. before l x ≡ true) (earlier_before l) (filled cells) after, cells_in_order (suc k) cells rest)

  -- the book, cut at the cell n of a pair
  module _ (cells : List (Option Link)) (fitting : fit roster 0 cells ≡ true) (n low high : ℕ) (within : n < length cells) (pair : Pair roster n low high) where
    abbrev fore : List Link
    fore = filled (take n cells)

    abbrev rest : List (Option Link)
    rest = drop (suc n) cells

    fore_apart : AllByRecursion (Apart low high) fore
    fore_apart = All-weaker (λ l. Earlier l.low l.high low high) (Apart low high) (apart_earlier low high) fore (front n low high pair 0 n cells (omega arith) fitting)

    rest_later : AllByRecursion (λ l. Earlier low high l.low l.high) (filled rest)
    rest_later = back_drop n low high pair 0 (suc n) cells (omega arith) fitting

    rest_apart : AllByRecursion (Apart low high) (filled rest)
    rest_apart = All-weaker (λ l. Earlier low high l.low l.high) (Apart low high) (apart_later low high) (filled rest) rest_later

    book_set : (v : Option Link) → filled (slice_set cells n v) ≡ fore ++ filled (v ∷ rest)
    book_set v = ap filled (set_split cells n v within) ∙ flat_map-append option_to_list (take n cells) (v ∷ rest)

    book_at : (v : Option Link) → slice_index_or cells n None ≡ v → filled cells ≡ fore ++ filled (v ∷ rest)
    book_at v e = ap filled (sym (set-get_or cells n None) ∙ ap (set cells n) e) ∙ book_set v

    joins_at : (l : Link) → slice_index_or cells n None ≡ Some l → joins low high l ≡ true
    joins_at l e =
        let p = (fit_at 0 n n cells l (omega arith) fitting e).pair in
        joined low high l (p.low_is ∙ sym pair.low_is) (p.high_is ∙ sym pair.high_is)

    pub find_cell : find (filled cells) low high ≡ slice_index_or cells n None
    find_cell = go (slice_index_or cells n None) refl
      where
        go : (v : Option Link) → slice_index_or cells n None ≡ v → find (filled cells) low high ≡ slice_index_or cells n None
        go None e = ap (λ b. find b low high) (book_at None e) ∙ find_past low high fore (filled rest) fore_apart ∙ find_none low high (filled rest) rest_apart ∙ sym e
        go (Some l) e = ap (λ b. find b low high) (book_at (Some l) e) ∙ find_here low high fore (filled rest) l fore_apart (joins_at l e) ∙ sym e

    pub recost_cell : (l : Link) (f : Figures) → slice_index_or cells n None ≡ Some l → filled (slice_set cells n (Some (with_figures l f))) ≡ recosted (filled cells) low high f
    recost_cell l f e =
        book_set (Some (with_figures l f)) ∙ sym (ap (λ b. recosted b low high f) (book_at (Some l) e) ∙ recosted_here low high f fore (filled rest) l fore_apart rest_apart (joins_at l e))

    pub unlink_cell : (l : Link) → slice_index_or cells n None ≡ Some l → filled (slice_set cells n None) ≡ without (filled cells) low high
    unlink_cell l e =
        book_set None ∙ sym (ap (λ b. without b low high) (book_at (Some l) e) ∙ without_here low high fore (filled rest) l fore_apart (joins_at l e))

  pub link_cell : (cells : List (Option Link)) (fitting : fit roster 0 cells ≡ true) (n : ℕ) (within : n < length cells) (new : Link) → Pair roster n new.low new.high → slice_index_or cells n None ≡ None →
      filled (slice_set cells n (Some new)) ≡ added (filled cells) new
  link_cell cells fitting n within new pair e =
      let fore = filled (take n cells) in
      let rest = filled (drop (suc n) cells) in
      let low = new.low in
      let high = new.high in
      let sooner = All-weaker (λ l. Earlier l.low l.high low high) (λ l. before l new ≡ true) (λ l. earlier_before l new) fore (front n low high pair 0 n cells (omega arith) fitting) in
      let past = All-weaker (λ l. Earlier low high l.low l.high) (λ l. before l new ≡ false) (λ l. earlier_not_before l new) rest (rest_later cells fitting n low high within pair) in
      book_set cells fitting n low high within pair (Some new) ∙
      sym (ap (λ b. added b new) (book_at cells fitting n low high within pair None e) ∙ added_between fore rest new sooner past)

-- the links that are left from the cell i on
pub filled_drop : (cells : List (Option Link)) (i : ℕ) (v : Option Link) → i < length cells → slice_index_or cells i None ≡ v → filled (drop i cells) ≡ filled (v ∷ drop (i + 1) cells)
filled_drop cells i v h e = ap filled (drop_more cells i None h ∙ ap (λ c. c ∷ drop (i + 1) cells) e)

-- a link of the pair of the cell k, with figures in their limits, fits it
pub fits_from : (roster : List ℕ) (k low high : ℕ) (l : Link) → k / 24 < k % 24 → Pair roster k low high → l.low ≡ low → l.high ≡ high → (in_limits l.figures.delay && in_limits l.figures.width) ≡ true → fits_cell roster k l ≡ true
fits_from roster k low high l o p x y f =
    and_from _ _ (lt-ltb _ _ o)
    (and_from _ _ (lt-ltb _ _ p.column)
    (and_from _ _ (eq-eqb _ _ (x ∙ p.low_is))
    (and_from _ _ (eq-eqb _ _ (y ∙ p.high_is)) f)))

-- at most 24 ASes are at most 512
pub few : (ases : List ℕ) → length ases ≤ 24 → length ases ≤ 512
few ases h = omega arith

-- the ASes in the first 24 places, or in fewer, are at most 512
pub few_taken : (n : ℕ) (ases : List ℕ) → n ≤ 24 → length (take n ases) ≤ 512
few_taken n ases h = omega (arith, length-take n ases)
