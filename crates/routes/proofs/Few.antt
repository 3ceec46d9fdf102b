-- A walk passes no more ASes than it may. Assumes nothing.
use Rattle.std.proofs.Common.{◌≡◌, ℕ, zero, suc, ◌*◌, ◌≤◌, Bool, true, false, cond, ◌≢◌, ◌⊎◌, List, length, Some, None, Ok, Err, Option, Result, sym, refl, ap, ◌∙◌, subst, inl, inr, arith}
use Rattle.std.proofs.lemmas.Bool.{cases_eq}
use Rattle.measure.specs.Measures.{Measure}
use Rattle.legality.specs.declared.types.Class.{Class}
use Rattle.legality.specs.declared.types.Class.TheVariants.{Home}
use Rattle.legality.specs.Networks.{Network}
use Rattle.table.specs.declared.types.Entry.{Entry}
use Rattle.routes.specs.Raw.{then, judged, next_of, walk, path_from, fitting, owed, send_from, sending}
use Rattle.routes.proofs.Known.{ok_inj, err_ok}
use Rattle.routes.proofs.Walked.{there, stuck, goes, ends_before}

then_ok : {A B R : Type 0} (r : Result A R) (f : A → Result B R) (b : B) → then r f ≡ Ok b → (a : A) × (r ≡ Ok a) × (f a ≡ Ok b)
then_ok (Ok a) f b e = (a, refl, e)
then_ok (Err x) f b e = absurd (err_ok refl e)

cond_ok : {A R : Type 0} (t : Bool) (x : R) (r : Result A R) (a : A) → cond t (Err x) r ≡ Ok a → r ≡ Ok a
cond_ok true x r a e = absurd (err_ok refl e)
cond_ok false x r a e = e

module _ {C : Type 0} (m : Measure C) (net : Network) (entries : List (Entry C)) where
  walk_few : (j k i : ℕ) (e : Class) (p : List ℕ) → walk m net entries k j i e ≡ Ok p → length p ≤ k
  walk_few j zero i e p h = absurd (err_ok refl h)
  walk_few j (suc k) i e p h = go (λ i' e' q g. walk_few j k i' e' q g) (cases_eq i j) (next_of m net entries j i e) refl
    where
      go : ((i' : ℕ) (e' : Class) (q : List ℕ) → walk m net entries k j i' e' ≡ Ok q → length q ≤ k) → (i ≡ j) ⊎ (i ≢ j) → (o : Option (ℕ × Class)) → next_of m net entries j i e ≡ o → length p ≤ suc k
      go more (inl y) o n = let one = ap length (ok_inj (sym h ∙ there m net entries j k i e y)) in omega arith
      go more (inr y) None n = absurd (err_ok (stuck m net entries j k i e y n) h)
      go more (inr y) (Some s) n =
          let z = ends_before _ (walk m net entries k j s.0 s.1) p (sym (goes m net entries j k i e s.0 s.1 y n) ∙ h) in
          let rest = more s.0 s.1 z.0 z.1 in
          omega (arith, ap length z.2)

  pub sends_few : (marks : List ℕ) (s d room : ℕ) (p : List ℕ) (c : C) → sending m net entries marks s d room ≡ Ok (p, c) → length p ≤ 2 * length net.roster
  sends_few marks s d room p c h =
      let a = then_ok (judged net.roster entries marks s d) (send_from m net entries room) (p, c) h in
      let q = then_ok (path_from m net entries a.0) (fitting room (owed m net entries a.0.1 a.0.0 Home)) (p, c) a.2 in
      let same : q.0 ≡ p = ap (λ t. t.0) (ok_inj (cond_ok _ _ _ (p, c) q.2)) in
      let few : length q.0 ≤ 2 * length net.roster = walk_few a.0.1 (2 * length net.roster) a.0.0 Home q.0 (cond_ok _ _ _ q.0 q.1) in
      subst (λ v. length v ≤ 2 * length net.roster) same few
