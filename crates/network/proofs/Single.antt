-- A pair of ASes has at most one link in a book in order. Assumes nothing.
use Rattle.std.specs.Prelude.{slice_get}
use Rattle.std.proofs.lemmas.Option.{same_Some}
use Rattle.std.proofs.Common.{◌≡◌, ℕ, zero, suc, true, false, ◌&&◌, eqb, ltb, List, [], ◌∷◌, Some, refl, ap, ◌∙◌, subst, inl, inr, arith}
use Rattle.std.specs.List.{AllByRecursion}
use Rattle.std.proofs.lemmas.Bool.{and_parts, and_from, and_left, and_right, or_cases, ltb-true, eq-eqb, ne_eqb, cond-true, cond-false}
use Rattle.network.specs.declared.types.Link.{Link}
use Rattle.network.specs.Books.{joins, find, before}
use Rattle.network.specs.Sound.{InOrder}
use Rattle.network.proofs.Somes.{none_some}

-- what holds of each element holds of the one at a place
pub all_at : {X : Type 0} (P : X → Type 0) (xs : List X) → AllByRecursion P xs → (i : ℕ) (x : X) → slice_get xs i ≡ Some x → P x
all_at P [] h i x e = absurd (none_some refl e)
all_at P (y ∷ ys) h zero x e = subst P (same_Some _ _ e) h.0
all_at P (y ∷ ys) h (suc i) x e = all_at P ys h.1 i x e

-- a link that stands before another is not of its pair
apart : (k l : Link) → before k l ≡ true → joins l.low l.high k ≡ false
apart k l h =
    elim (or_cases (ltb k.low l.low) (eqb k.low l.low && ltb k.high l.high) h) [
      | inl low ↦ by_low low
      | inr high ↦ by_high (and_parts (eqb k.low l.low) (ltb k.high l.high) high).1
    ]
  where
    by_low : ltb k.low l.low ≡ true → joins l.low l.high k ≡ false
    by_low low = and_left (eqb k.low l.low) (eqb k.high l.high) (ne_eqb k.low l.low (λ e. omega (arith, ltb-true k.low l.low low)))

    by_high : ltb k.high l.high ≡ true → joins l.low l.high k ≡ false
    by_high high = and_right (eqb k.low l.low) (eqb k.high l.high) (ne_eqb k.high l.high (λ e. omega (arith, ltb-true k.high l.high high)))

-- the link at a place is the one that its pair finds
pub only : (book : List Link) → InOrder book → (i : ℕ) (l : Link) → slice_get book i ≡ Some l → find book l.low l.high ≡ Some l
only [] h i l e = e
only (k ∷ ks) h zero l e =
    let same : k ≡ l = same_Some _ _ e in
    let low : eqb k.low l.low ≡ true = eq-eqb k.low l.low (ap (λ x. x.low) same) in
    let high : eqb k.high l.high ≡ true = eq-eqb k.high l.high (ap (λ x. x.high) same) in
    cond-true (joins l.low l.high k) (Some k) (find ks l.low l.high) (and_from (eqb k.low l.low) (eqb k.high l.high) low high) ∙ e
only (k ∷ ks) h (suc i) l e =
    cond-false (joins l.low l.high k) (Some k) (find ks l.low l.high) (apart k l (all_at (λ x. before k x ≡ true) ks h.0 i l e)) ∙
    only ks h.1 i l e
