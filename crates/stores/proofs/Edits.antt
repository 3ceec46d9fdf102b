-- What an edit of a cell makes of a grid store. Assumes nothing.
use Rattle.std.proofs.Common.{◌≡◌, ℕ, ◌/◌, ◌%◌, ◌<◌, min, max, true, false, cond, not, ◌&&◌, eqb, ◌≢◌, List, [], ◌∷◌, length, get_or, set, is_some, Some, None, Ok, Err, Option, sym, refl, ap, ◌∙◌, subst, arith}
use Rattle.std.proofs.lemmas.Bool.{and_from, eq-eqb, ne_eqb, cond-true, cond-false}
use Rattle.network.specs.declared.types.Link.{Link}
use Rattle.network.specs.declared.types.Figures.{Figures}
use Rattle.network.specs.declared.types.Relation.{Relation}
use Rattle.network.specs.declared.types.EditRefusal.TheVariants.{AlreadyLinked, NotLinked, Full}
use Rattle.network.specs.Rosters.{place}
use Rattle.network.specs.Limits.{in_limits}
use Rattle.network.specs.Books.{link_of, added, entered, with_figures, relation_of, relation_named}
use Rattle.network.specs.Causes.{first_cause, pair_causes, figures_causes, link_causes, recost_causes, unlink_causes}
use Rattle.network.specs.Edits.{Links, Recosts, Unlinks}
use Rattle.network.proofs.Options.{none_from}
use Rattle.network.proofs.Rising.{place_stands}
use Rattle.network.proofs.Causes.{pair_known, figures_known, edit_refused, edit_accepted}
use Rattle.stores.specs.declared.grid.cells.GridStore.{GridStore}
use Rattle.stores.specs.Cells.{filled, fit, cell_at, cell_of}
use Rattle.stores.specs.Grid.{grid_roster, grid_cells, grid_book}
use Rattle.stores.specs.Refusals.{judged, relation_causes}
use Rattle.stores.specs.CellsLemmas.{Pair, fit_at, fits_from, link_cell, recost_cell, unlink_cell}
use Rattle.stores.proofs.GridRows.{cells_length}
use Rattle.stores.proofs.Pairs.{cell, places_within, pair_cell, link_of_cell}
use Rattle.stores.proofs.Refusals.{judged_ok, named_judged, link_rest, recost_rest, unlink_rest}

-- the cell of the ASes a and b
pub record Spot (s : GridStore) (a b n : ℕ) : Type 0 where
  pub passed : first_cause (pair_causes (grid_roster s) a b []) ≡ None
  pub within : n < length (grid_cells s)
  pub ordered : n / 24 < n % 24
  pub pair : Pair (grid_roster s) n (min a b) (max a b)
  pub held : link_of (grid_book s) a b ≡ get_or (grid_cells s) n None

pub spot : (s : GridStore) (a b : ℕ) {n : ℕ} → Ok n ≡ judged (first_cause (pair_causes (grid_roster s) a b [])) (cell_of (grid_roster s) a b) → Spot s a b n
spot s a b {n} e =
    let j = judged_ok _ _ _ e in
    let k = pair_known (grid_roster s) a b j.0 in
    let x = k.first_place in
    let y = k.second_place in
    let p = k.first_at in
    let q = k.second_at in
    let is : n ≡ cell x y = j.1 ∙ ap (λ o. cell_at o (place (grid_roster s) b)) p ∙ ap (cell_at (Some x)) q in
    subst (Spot s a b) (sym is) (here s a b x y p q j.0 k.apart)
  where
    here : (s : GridStore) (a b i j : ℕ) → place (grid_roster s) a ≡ Some i → place (grid_roster s) b ≡ Some j → first_cause (pair_causes (grid_roster s) a b []) ≡ None → a ≢ b → Spot s a b (cell i j)
    here s a b i j p q none apart =
        let w = places_within s a b i j p q in
        let other : i ≢ j = λ e. apart (sym (place_stands (grid_roster s) a i p).is ∙ ap (λ k. get_or (grid_roster s) k 0) e ∙ (place_stands (grid_roster s) b j q).is) in
        record { passed = none; within = omega (arith, w, cells_length s.rows, s.sized); ordered = omega (arith, w, other); pair = pair_cell s a b i j p q; held = link_of_cell s a b i j p q }

module _ {s : GridStore} {a b n : ℕ} (here : Spot s a b n) where
  -- a link of the pair fits its cell
  fits_spot : (l : Link) → l.low ≡ min a b → l.high ≡ max a b → (in_limits l.figures.delay && in_limits l.figures.width) ≡ true → fit (grid_roster s) n (Some l ∷ []) ≡ true
  fits_spot l x y f =
      and_from _ _ (fits_from _ _ _ _ l here.ordered here.pair x y f) refl

  -- the last cause, once those before it have passed
  unlink_left : {v : Option Link} → get_or (grid_cells s) n None ≡ v → first_cause (unlink_causes (grid_roster s) (grid_book s) a b) ≡ first_cause ((NotLinked, not (is_some v)) ∷ [])
  unlink_left e = unlink_rest _ (grid_book s) _ _ here.passed ∙ ap (λ o. cond (not (is_some o)) (Some NotLinked) None) (here.held ∙ e)

  pub unlink_missing : get_or (grid_cells s) n None ≡ None → Unlinks a b (grid_roster s) (grid_roster s) (grid_book s) (grid_book s) 276 276 (Err NotLinked)
  unlink_missing e = edit_refused _ _ _ _ _ _ (unlink_left e)

  pub unlink_made : {roster' : List ℕ} {cells' : List (Option Link)} {l : Link} → get_or (grid_cells s) n None ≡ Some l → roster' ≡ grid_roster s → cells' ≡ set (grid_cells s) n None →
      Unlinks a b (grid_roster s) roster' (grid_book s) (filled cells') 276 276 (Ok tt)
  unlink_made {l = l} e r c =
      edit_accepted _ _ _ _ _ _ _ (unlink_left e) r
      (ap filled c ∙ unlink_cell _ s.rising _ s.placed _ _ _ here.within here.pair l e)

  module _ (f : Figures) {u : Unit {0}} (tested : Ok u ≡ judged (first_cause (figures_causes f [])) tt) where
    figures_pass : first_cause (figures_causes f []) ≡ None
    figures_pass = (judged_ok _ _ _ tested).0

    recost_left : {v : Option Link} → get_or (grid_cells s) n None ≡ v → first_cause (recost_causes (grid_roster s) (grid_book s) a b f) ≡ first_cause ((NotLinked, not (is_some v)) ∷ [])
    recost_left e = recost_rest _ (grid_book s) _ _ here.passed f figures_pass ∙ ap (λ o. cond (not (is_some o)) (Some NotLinked) None) (here.held ∙ e)

    pub recost_missing : get_or (grid_cells s) n None ≡ None → Recosts a b f (grid_roster s) (grid_roster s) (grid_book s) (grid_book s) 276 276 (Err NotLinked)
    recost_missing e = edit_refused _ _ _ _ _ _ (recost_left e)

    pub recost_fits : {l : Link} → get_or (grid_cells s) n None ≡ Some l → fit (grid_roster s) n (Some (with_figures l f) ∷ []) ≡ true
    recost_fits {l} e =
        let p = (fit_at _ s.rising 0 n n _ l (omega arith) s.placed e).pair in
        fits_spot (with_figures l f) (p.low_is ∙ sym here.pair.low_is) (p.high_is ∙ sym here.pair.high_is) (figures_known f figures_pass)

    pub recost_made : {roster' : List ℕ} {cells' : List (Option Link)} {l : Link} → get_or (grid_cells s) n None ≡ Some l → roster' ≡ grid_roster s → cells' ≡ set (grid_cells s) n (Some (with_figures l f)) →
        Recosts a b f (grid_roster s) roster' (grid_book s) (filled cells') 276 276 (Ok tt)
    recost_made {l = l} e r c =
        edit_accepted _ _ _ _ _ _ _ (recost_left e) r
        (ap filled c ∙ recost_cell _ s.rising _ s.placed _ _ _ here.within here.pair l f e)

    module _ (word : ℕ) {relation : Relation} (named : Ok relation ≡ relation_named word) where
      relation_pass : (first_cause (relation_causes word) ≡ None) × (relation ≡ relation_of word)
      relation_pass = judged_ok (first_cause (relation_causes word)) relation (relation_of word) (named ∙ named_judged word)

      causes_left : first_cause (link_causes (grid_roster s) (grid_book s) 276 a b word f) ≡ cond (is_some (get_or (grid_cells s) n None)) (Some AlreadyLinked) (cond (eqb (length (grid_book s)) 276) (Some Full) None)
      causes_left =
          link_rest _ (grid_book s) _ _ here.passed f figures_pass 276 word relation_pass.0 ∙
          ap (λ o. cond (is_some o) (Some AlreadyLinked) (cond (eqb (length (grid_book s)) 276) (Some Full) None)) here.held

      pub link_standing : is_some (get_or (grid_cells s) n None) ≡ true → Links a b word f (grid_roster s) (grid_roster s) (grid_book s) (grid_book s) 276 276 (Err AlreadyLinked)
      link_standing e = edit_refused _ _ _ _ _ _ (causes_left ∙ cond-true _ _ _ e)

      module _ (free : is_some (get_or (grid_cells s) n None) ≡ false) where
        cause_left : first_cause (link_causes (grid_roster s) (grid_book s) 276 a b word f) ≡ cond (eqb (length (grid_book s)) 276) (Some Full) None
        cause_left = causes_left ∙ cond-false _ _ _ free

        pub link_full : length (grid_book s) ≡ 276 → Links a b word f (grid_roster s) (grid_roster s) (grid_book s) (grid_book s) 276 276 (Err Full)
        link_full e = edit_refused _ _ _ _ _ _ (cause_left ∙ cond-true _ _ _ (eq-eqb _ _ e))

        pub link_made : {roster' : List ℕ} {cells' : List (Option Link)} → length (grid_book s) ≢ 276 → roster' ≡ grid_roster s → cells' ≡ set (grid_cells s) n (Some (entered a b relation f)) →
            Links a b word f (grid_roster s) roster' (grid_book s) (filled cells') 276 276 (Ok tt)
        link_made ne r c =
            edit_accepted _ _ _ _ _ _ _ (cause_left ∙ cond-false _ _ _ (ne_eqb _ _ ne)) r
            (ap filled c ∙
            link_cell _ s.rising _ s.placed _ here.within _ here.pair (none_from _ free) ∙
            ap (λ k. added (grid_book s) (entered a b k f)) relation_pass.1)

      pub link_fits : fit (grid_roster s) n (Some (entered a b relation f) ∷ []) ≡ true
      link_fits = fits_spot (entered a b relation f) refl refl (figures_known f figures_pass)
