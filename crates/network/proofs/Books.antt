-- The plain book, cut where a link stands or would stand. Assumes nothing.
use Rattle.std.proofs.Common.{◌≡◌, ℕ, ◌<◌, true, false, ◌&&◌, eqb, ltb, ◌⊎◌, List, [], ◌∷◌, ◌++◌, Some, None, refl, ap, ◌∙◌, inl, inr, ⊎_elim, arith}
use Rattle.std.specs.List.{AllByRecursion}
use Rattle.std.proofs.lemmas.Bool.{and_from, and_left, and_right, and_parts, or_left, or_right, or_from, cases_Bool, lt-ltb, le-ltb, eqb-true, eq-eqb, ne_eqb, cond-true, cond-false}
use Rattle.network.specs.declared.types.Link.{Link}
use Rattle.network.specs.declared.types.Figures.{Figures}
use Rattle.network.specs.Rosters.{Among}
use Rattle.network.specs.Books.{joins, find, before, added, with_figures, recosted, without}
use Rattle.network.specs.Sound.{Proper}

-- a pair stands before another
abbrev pub Earlier : ℕ → ℕ → ℕ → ℕ → Type 0
Earlier low high low' high' = (low < low') ⊎ ((low ≡ low') × (high < high'))

pub earlier_before : (l k : Link) → Earlier l.low l.high k.low k.high → before l k ≡ true
earlier_before l k (inl h) = or_left (ltb l.low k.low) (eqb l.low k.low && ltb l.high k.high) (lt-ltb l.low k.low h)
earlier_before l k (inr h) =
    or_right (ltb l.low k.low) (eqb l.low k.low && ltb l.high k.high)
    (and_from (eqb l.low k.low) (ltb l.high k.high) (eq-eqb l.low k.low h.0) (lt-ltb l.high k.high h.1))

pub earlier_not_before : (l k : Link) → Earlier k.low k.high l.low l.high → before l k ≡ false
earlier_not_before l k (inl h) =
    or_from (ltb l.low k.low) (eqb l.low k.low && ltb l.high k.high) (le-ltb l.low k.low (omega arith))
    (and_left (eqb l.low k.low) (ltb l.high k.high) (ne_eqb l.low k.low (λ e. omega arith)))
earlier_not_before l k (inr h) =
    or_from (ltb l.low k.low) (eqb l.low k.low && ltb l.high k.high) (le-ltb l.low k.low (omega arith))
    (and_right (eqb l.low k.low) (ltb l.high k.high) (le-ltb l.high k.high (omega arith)))

-- a link of another pair
abbrev pub Apart : ℕ → ℕ → Link → Type 0
Apart low high l = joins low high l ≡ false

pub joined : (low high : ℕ) (l : Link) → l.low ≡ low → l.high ≡ high → joins low high l ≡ true
joined low high l p q = and_from (eqb l.low low) (eqb l.high high) (eq-eqb l.low low p) (eq-eqb l.high high q)

pub apart_earlier : (low high : ℕ) (l : Link) → Earlier l.low l.high low high → Apart low high l
apart_earlier low high l (inl h) = and_left (eqb l.low low) (eqb l.high high) (ne_eqb l.low low (λ e. omega arith))
apart_earlier low high l (inr h) = and_right (eqb l.low low) (eqb l.high high) (ne_eqb l.high high (λ e. omega arith))

pub apart_later : (low high : ℕ) (l : Link) → Earlier low high l.low l.high → Apart low high l
apart_later low high l (inl h) = and_left (eqb l.low low) (eqb l.high high) (ne_eqb l.low low (λ e. omega arith))
apart_later low high l (inr h) = and_right (eqb l.low low) (eqb l.high high) (ne_eqb l.high high (λ e. omega arith))

-- a link goes in between those before it and those that it is before
pub added_between : (xs ys : List Link) (new : Link) → AllByRecursion (λ l. before l new ≡ true) xs → AllByRecursion (λ l. before l new ≡ false) ys → added (xs ++ ys) new ≡ xs ++ new ∷ ys
added_between [] [] new p q = refl
added_between [] (y ∷ ys) new p q = cond-false (before y new) (y ∷ added ys new) (new ∷ (y ∷ ys)) q.0
added_between (x ∷ xs) ys new p q =
    cond-true (before x new) (x ∷ added (xs ++ ys) new) (new ∷ (x ∷ (xs ++ ys))) p.0 ∙ ap (λ zs. x ∷ zs) (added_between xs ys new p.1 q)

module _ (low high : ℕ) where
  pub find_past : (xs ys : List Link) → AllByRecursion (Apart low high) xs → find (xs ++ ys) low high ≡ find ys low high
  find_past [] ys p = refl
  find_past (x ∷ xs) ys p = cond-false (joins low high x) (Some x) (find (xs ++ ys) low high) p.0 ∙ find_past xs ys p.1

  pub find_none : (xs : List Link) → AllByRecursion (Apart low high) xs → find xs low high ≡ None
  find_none [] p = refl
  find_none (x ∷ xs) p = cond-false (joins low high x) (Some x) (find xs low high) p.0 ∙ find_none xs p.1

  pub find_here : (xs ys : List Link) (l : Link) → AllByRecursion (Apart low high) xs → joins low high l ≡ true → find (xs ++ l ∷ ys) low high ≡ Some l
  find_here xs ys l p j = find_past xs (l ∷ ys) p ∙ cond-true (joins low high l) (Some l) (find ys low high) j

  recosted_apart : (f : Figures) (xs : List Link) → AllByRecursion (Apart low high) xs → recosted xs low high f ≡ xs
  recosted_apart f [] p = refl
  recosted_apart f (x ∷ xs) p =
      ap (λ y. y ∷ recosted xs low high f) (cond-false (joins low high x) (with_figures x f) x p.0) ∙ ap (λ zs. x ∷ zs) (recosted_apart f xs p.1)

  pub recosted_here : (f : Figures) (xs ys : List Link) (l : Link) → AllByRecursion (Apart low high) xs → AllByRecursion (Apart low high) ys → joins low high l ≡ true →
      recosted (xs ++ l ∷ ys) low high f ≡ xs ++ with_figures l f ∷ ys
  recosted_here f [] ys l p q j =
      ap (λ y. y ∷ recosted ys low high f) (cond-true (joins low high l) (with_figures l f) l j) ∙ ap (λ zs. with_figures l f ∷ zs) (recosted_apart f ys q)
  recosted_here f (x ∷ xs) ys l p q j =
      ap (λ y. y ∷ recosted (xs ++ l ∷ ys) low high f) (cond-false (joins low high x) (with_figures x f) x p.0) ∙
      ap (λ zs. x ∷ zs) (recosted_here f xs ys l p.1 q j)

  pub without_here : (xs ys : List Link) (l : Link) → AllByRecursion (Apart low high) xs → joins low high l ≡ true → without (xs ++ l ∷ ys) low high ≡ xs ++ ys
  without_here [] ys l p j = cond-true (joins low high l) ys (l ∷ without ys low high) j
  without_here (x ∷ xs) ys l p j =
      cond-false (joins low high x) (xs ++ l ∷ ys) (x ∷ without (xs ++ l ∷ ys) low high) p.0 ∙ ap (λ zs. x ∷ zs) (without_here xs ys l p.1 j)

  -- no link of a proper book joins an AS that is not in the roster
  pub find_unknown : (roster : List ℕ) (book : List Link) → AllByRecursion (Proper roster) book → ((Among low roster × Among high roster) → ⊥) → find book low high ≡ None
  find_unknown roster book p unknown = find_none book (all_apart book p)
    where
      apart : (l : Link) → Proper roster l → Apart low high l
      apart l k = ⊎_elim (λ y. absurd (known l k y)) (λ n. n) (cases_Bool (joins low high l))
        where
          known : (l : Link) → Proper roster l → joins low high l ≡ true → ⊥
          known l k y =
              let both = and_parts (eqb l.low low) (eqb l.high high) y in
              unknown (rw (eqb-true l.low low both.0) at k.low_known, rw (eqb-true l.high high both.1) at k.high_known)

      all_apart : (xs : List Link) → AllByRecursion (Proper roster) xs → AllByRecursion (Apart low high) xs
      all_apart [] k = tt
      all_apart (x ∷ xs) k = (apart x k.0, all_apart xs k.1)
