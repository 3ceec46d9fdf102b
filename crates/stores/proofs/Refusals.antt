-- What the tests of an edit say of its causes. Assumes nothing.
use Rattle.std.proofs.Common.{◌≡◌, ℕ, Bool, true, false, cond, not, ◌&&◌, leb, eqb, List, [], ◌∷◌, ◌++◌, length, is_some, Some, None, Ok, Err, Option, Result, sym, refl, ap, ◌∙◌, subst, arith}
use Rattle.std.specs.Option.{unwrap_or}
use Rattle.network.specs.declared.types.Link.{Link}
use Rattle.network.specs.declared.types.Figures.{Figures}
use Rattle.network.specs.declared.types.EditRefusal.{EditRefusal}
use Rattle.network.specs.declared.types.EditRefusal.TheVariants.{BadRelation, AlreadyLinked, NotLinked, Full}
use Rattle.network.specs.Rosters.{place}
use Rattle.network.specs.Books.{link_of, relation_of, relation_named}
use Rattle.network.specs.Causes.{first_cause, pair_causes, figures_causes, link_causes, recost_causes, unlink_causes}
use Rattle.network.specs.Edits.{Edits}
use Rattle.network.proofs.Causes.{pair_known, causes_pass, causes_stop, edit_refused}
use Rattle.stores.specs.Refusals.{judged, places, relation_causes}

module _ {R X : Type 0} where
  -- a test that accepts, and what it gives ..
  pub judged_ok : (o : Option R) (x y : X) → Ok x ≡ judged o y → (o ≡ None) × (x ≡ y)
  judged_ok None x y e = (refl, cc)
  judged_ok (Some r) x y e = let z : ◌≡◌ {A = ℕ} 0 1 = cc in absurd (omega arith)

  -- .. and one that refuses
  pub judged_err : (o : Option R) (r : R) (y : X) → Err r ≡ judged o y → o ≡ Some r
  judged_err None r y e = let z : ◌≡◌ {A = ℕ} 0 1 = cc in absurd (omega arith)
  judged_err (Some q) r y e = cc

-- a relation's number passes its test exactly when it names one
pub named_judged : (number : ℕ) → relation_named number ≡ judged (first_cause (relation_causes number)) (relation_of number)
named_judged number = go (leb 1 number && leb number 3)
  where
    go : (named : Bool) → cond named (Ok (relation_of number)) (Err BadRelation) ≡ judged (cond (not named) (Some BadRelation) None) (relation_of number)
    go true = refl
    go false = refl

-- two places that are found
pub placed : (roster : List ℕ) (a b : ℕ) (p : ℕ × ℕ) → Ok p ≡ judged (first_cause (pair_causes roster a b [])) (places roster a b) →
    (first_cause (pair_causes roster a b []) ≡ None) × (place roster a ≡ Some p.0) × (place roster b ≡ Some p.1)
placed roster a b p e =
    let ok = judged_ok (first_cause (pair_causes roster a b [])) p (places roster a b) e in
    let k = pair_known roster a b ok.0 in
    let x = k.first_at in
    let y = k.second_at in
    (ok.0, x ∙ ap Some (sym (ap (λ q. q.0) ok.1 ∙ ap (λ o. unwrap_or o 0) x)), y ∙ ap Some (sym (ap (λ q. q.1) ok.1 ∙ ap (λ o. unwrap_or o 0) y)))

module _ (roster : List ℕ) (book : List Link) (a b : ℕ) (pair : first_cause (pair_causes roster a b []) ≡ None) where
  pub unlink_rest : first_cause (unlink_causes roster book a b) ≡ first_cause ((NotLinked, not (is_some (link_of book a b))) ∷ [])
  unlink_rest = causes_pass (pair_causes roster a b []) ((NotLinked, not (is_some (link_of book a b))) ∷ []) pair

  module _ (f : Figures) (figures : first_cause (figures_causes f []) ≡ None) where
    pub recost_rest : first_cause (recost_causes roster book a b f) ≡ first_cause ((NotLinked, not (is_some (link_of book a b))) ∷ [])
    recost_rest =
        let last = (NotLinked, not (is_some (link_of book a b))) ∷ [] in
        causes_pass (pair_causes roster a b []) (figures_causes f last) pair ∙ causes_pass (figures_causes f []) last figures

    pub link_rest : (limit relation : ℕ) → first_cause (relation_causes relation) ≡ None →
        first_cause (link_causes roster book limit a b relation f) ≡ first_cause ((AlreadyLinked, is_some (link_of book a b)) ∷ ((Full, eqb (length book) limit) ∷ []))
    link_rest limit relation named =
        let last = (AlreadyLinked, is_some (link_of book a b)) ∷ ((Full, eqb (length book) limit) ∷ []) in
        causes_pass (pair_causes roster a b []) (relation_causes relation ++ figures_causes f last) pair ∙
        causes_pass (relation_causes relation) (figures_causes f last) named ∙
        causes_pass (figures_causes f []) last figures

-- a test that refuses, once the causes before it have passed
pub stopped : {X : Type 0} (before xs ys : List (EditRefusal × Bool)) (next : List Link) (roster : List ℕ) (book : List Link) (limit : ℕ) (x : EditRefusal) (y : X) (r : Result (Unit {0}) EditRefusal) →
    first_cause before ≡ None → Err x ≡ judged (first_cause xs) y → r ≡ Err x → Edits (before ++ (xs ++ ys)) next roster roster book book limit limit r
stopped before xs ys next roster book limit x y r passed refuses e =
    let cause = causes_pass before (xs ++ ys) passed ∙ causes_stop xs ys x (judged_err (first_cause xs) x y refuses) in
    subst (λ z. Edits (before ++ (xs ++ ys)) next roster roster book book limit limit z) (sym e) (edit_refused (before ++ (xs ++ ys)) next roster limit book x cause)
