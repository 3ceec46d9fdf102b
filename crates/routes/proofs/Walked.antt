-- Walks by the entries, step by step. Assumes nothing.
use Rattle.std.proofs.Common.{◌≡◌, ℕ, zero, suc, ◌+◌, ◌*◌, ◌<◌, ◌≤◌, ◌≢◌, ◌⊎◌, List, [], ◌∷◌, ◌++◌, length, get_or, Some, None, Ok, Err, Option, Result, sym, refl, ap, ◌∙◌, inl, inr, append_assoc, length-append, arith}
use Rattle.std.proofs.lemmas.Bool.{cases_eq, cases_lt}
use Rattle.network.specs.declared.stores.Store.{Ghosts as Stores}
use Rattle.std.proofs.lemmas.Option.{get_or_from_slice_get}
use Rattle.measure.specs.declared.Measure.{Ghosts as Measures}
use Rattle.measure.specs.Measures.{Measure}
use Rattle.legality.specs.declared.types.Class.{Class}
use Rattle.legality.specs.Networks.{Network}
use Rattle.table.specs.declared.types.Entry.{Entry}
use Rattle.table.specs.declared.types.RouteRefusal.{RouteRefusal}
use Rattle.table.specs.declared.types.RouteRefusal.TheVariants.{FalseEntry, LongWalk}
use Rattle.routes.specs.Raw.{before, next_of, walk}
use Rattle.routes.specs.declared.column.Column.{Column}
use Rattle.routes.specs.declared.column.Stop.{Stop}
use Rattle.routes.specs.Walks.{after}
use Rattle.routes.specs.Columns.{net_in, Stands, next_in, walk_in, Passed}
use Rattle.routes.proofs.Known.{ok_inj, err_ok}

-- an AS more has been passed
after_before : (passed : List ℕ) (a : ℕ) (r : Result (List ℕ) RouteRefusal) → after passed (before a r) ≡ after (passed ++ a ∷ []) r
after_before passed a (Ok p) = ap Ok (sym (append_assoc passed (a ∷ []) p))
after_before passed a (Err x) = refl

after_none : (r : Result (List ℕ) RouteRefusal) → r ≡ after [] r
after_none (Ok p) = refl
after_none (Err x) = refl

-- a walk that arrives goes on from the ASes that have been passed
rest_of : (passed : List ℕ) (r : Result (List ℕ) RouteRefusal) (p : List ℕ) → after passed r ≡ Ok p → (q : List ℕ) × (r ≡ Ok q) × (p ≡ passed ++ q)
rest_of passed (Ok q) p e = (q, refl, sym (ok_inj e))
rest_of passed (Err x) p e = absurd (err_ok refl e)

pub ends_before : (a : ℕ) (r : Result (List ℕ) RouteRefusal) (p : List ℕ) → before a r ≡ Ok p → (q : List ℕ) × (r ≡ Ok q) × (p ≡ a ∷ q)
ends_before a (Ok q) p e = (q, refl, sym (ok_inj e))
ends_before a (Err x) p e = absurd (err_ok refl e)

no_more : (q : List ℕ) → length q ≡ 0 → q ≡ []
no_more [] e = refl
no_more (x ∷ q) e = absurd (omega arith)

module _ {C : Type 0} (m : Measure C) (net : Network) (entries : List (Entry C)) (j : ℕ) where
  abbrev on : ℕ → ℕ → Class → Result (List ℕ) RouteRefusal
  on k i e = walk m net entries k j i e

  abbrev next : ℕ → Class → Option (ℕ × Class)
  next i e = next_of m net entries j i e

  abbrev name : ℕ → ℕ
  name i = get_or net.roster i 0

  pub there : (k i : ℕ) (e : Class) → i ≡ j → walk m net entries (suc k) j i e ≡ Ok (get_or net.roster i 0 ∷ [])
  there k i e h = grind arith

  pub stuck : (k i : ℕ) (e : Class) → i ≢ j → next_of m net entries j i e ≡ None → walk m net entries (suc k) j i e ≡ Err FalseEntry
  stuck k i e h n = grind arith

  pub goes : (k i : ℕ) (e : Class) (i' : ℕ) (e' : Class) → i ≢ j → next_of m net entries j i e ≡ Some (i', e') → walk m net entries (suc k) j i e ≡ before (get_or net.roster i 0) (walk m net entries k j i' e')
  goes k i e i' e' h n = grind arith

  -- a walk begins where it begins
  pub headed : (k i : ℕ) (e : Class) (p : List ℕ) → walk m net entries k j i e ≡ Ok p → (q : List ℕ) × (p ≡ get_or net.roster i 0 ∷ q)
  headed zero i e p h = absurd (err_ok refl h)
  headed (suc k) i e p h = go (cases_eq i j) (next i e) refl
    where
      go : (i ≡ j) ⊎ (i ≢ j) → (o : Option (ℕ × Class)) → next i e ≡ o → (q : List ℕ) × (p ≡ name i ∷ q)
      go (inl y) o n = ([], ok_inj (sym h ∙ there k i e y))
      go (inr y) None n = absurd (err_ok (stuck k i e y n) h)
      go (inr y) (Some s) n = let z = ends_before (name i) (on k s.0 s.1) p (sym (goes k i e s.0 s.1 y n) ∙ h) in (z.0, z.2)

module _ {S M C : Type 0} {g : Stores S} {h : Measures M C} (column : Column S M C g h) where
  abbrev most : ℕ
  most = 2 * length (g.roster column.store.now)

  abbrev rest : ℕ → Stop → Result (List ℕ) RouteRefusal
  rest k s = walk h.measure (net_in column) column.entries.now k column.to s.place s.class

  pub passed_none : (f : Stop) → Stands column f → Passed column f f []
  passed_none f stands = record { left = most; sum = omega arith; stands = stands; same = after_none (walk_in column f) }

  module _ {f s : Stop} {passed : List ℕ} (so : Passed column f s passed) where
    abbrev Going : ℕ → Type 0
    Going left = (k : ℕ) × (left ≡ suc k) × (k + length passed + 1 ≡ most) × (walk_in column f ≡ after passed (rest (suc k) s))

    here : get_or (g.roster column.store.now) s.place 0 ≡ s.number
    here = get_or_from_slice_get (g.roster column.store.now) s.place s.number 0 so.stands

    long : length (passed ++ s.number ∷ []) ≡ length passed + 1
    long = length-append passed (s.number ∷ [])

    -- it may pass one more
    going : length passed < 2 * length (g.roster column.store.now) → Going so.left
    going l = go so.left so.sum so.same
      where
        go : (left : ℕ) → left + length passed ≡ most → walk_in column f ≡ after passed (rest left s) → Going left
        go zero t q = absurd (omega arith)
        go (suc k) t q = (k, refl, omega arith, q)

    pub passed_more : length passed < 2 * length (g.roster column.store.now) → s.place ≢ column.to → (s' : Stop) → Some (s'.place, s'.class) ≡ next_in column s → Stands column s' → Passed column f s' (passed ++ s.number ∷ [])
    passed_more l y s' n stands =
        let z = going l in
        record {
          left = z.0;
          sum = omega (arith, z.2, long);
          stands = stands;
          same = z.3 ∙ ap (after passed) (goes h.measure (net_in column) column.entries.now column.to z.0 s.place s.class s'.place s'.class y (sym n)) ∙ ap (λ a. after passed (before a (rest z.0 s'))) here ∙ after_before passed s.number (rest z.0 s');
        }

    pub passed_there : length passed < 2 * length (g.roster column.store.now) → s.place ≡ column.to → walk_in column f ≡ Ok (passed ++ s.number ∷ [])
    passed_there l y = let z = going l in z.3 ∙ ap (after passed) (there h.measure (net_in column) column.entries.now column.to z.0 s.place s.class y) ∙ ap (λ a. Ok (passed ++ a ∷ [])) here

    pub passed_false : length passed < 2 * length (g.roster column.store.now) → s.place ≢ column.to → None ≡ next_in column s → walk_in column f ≡ Err FalseEntry
    passed_false l y n = let z = going l in z.3 ∙ ap (after passed) (stuck h.measure (net_in column) column.entries.now column.to z.0 s.place s.class y (sym n))

    passed_long : most ≤ length passed → walk_in column f ≡ Err LongWalk
    passed_long l = let none : so.left ≡ 0 = omega (arith, so.sum) in so.same ∙ ap (λ k. after passed (rest k s)) none

    -- a walk that arrives with two ASes more has not arrived yet ..
    pub not_yet : {p : List ℕ} → walk_in column f ≡ Ok p → length passed + 1 < length p → (length passed < 2 * length (g.roster column.store.now)) × (s.place ≢ column.to)
    not_yet e l = go (cases_lt (length passed) most)
      where
        go : (length passed < most) ⊎ (most ≤ length passed) → (length passed < most) × (s.place ≢ column.to)
        go (inr k) = absurd (err_ok (passed_long k) e)
        go (inl k) = (k, λ y. omega (arith, l, long, ap length (ok_inj (sym e ∙ passed_there k y))))

    -- .. and with one more it arrives here
    pub at_last : {p : List ℕ} → walk_in column f ≡ Ok p → length p ≡ length passed + 1 → walk_in column f ≡ Ok (passed ++ s.number ∷ [])
    at_last {p} e l =
        let r = rest_of passed (rest so.left s) p (sym so.same ∙ e) in
        let q = headed h.measure (net_in column) column.entries.now column.to so.left s.place s.class r.0 r.1 in
        let none : q.0 ≡ [] = no_more q.0 (omega (arith, l, ap length r.2, length-append passed r.0, ap length q.1)) in
        e ∙ ap Ok (r.2 ∙ ap (λ x. passed ++ x) (q.1 ∙ ap (λ x. get_or (g.roster column.store.now) s.place 0 ∷ x) none ∙ ap (λ a. a ∷ []) here))
