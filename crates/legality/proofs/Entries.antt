-- What a right table says where its entry is known. Assumes nothing.
use Rattle.std.proofs.Common.{◌≡◌, ℕ, List, Some, None, ◌∙◌, subst₂}
use Rattle.network.proofs.Somes.{none_some, same_pair}
use Rattle.measure.specs.Measures.{Measure}
use Rattle.legality.specs.declared.types.Class.{Class}
use Rattle.legality.specs.Networks.{Network}
use Rattle.legality.specs.Paths.{Route}
use Rattle.legality.specs.Tables.{Table, Offers, Chosen, LocalAt, Shortest, GlobalAt, Global}

module _ {C : Type 0} {m : Measure C} {net : Network} {t : Table C} {a : ℕ} {e : Class} where
  pub chosen_at : {b : ℕ} {c : C} → LocalAt m net t a e → t a e ≡ Some (b, c) → Chosen m net t a e b c
  chosen_at (LocalAt.blank q none) p = absurd (none_some q p)
  chosen_at (LocalAt.filled x k q best) p = let same = same_pair q p in subst₂ (Chosen m net t a e) same.0 same.1 best

  pub no_offer_at : LocalAt m net t a e → t a e ≡ None → (b : ℕ) (c : C) → ¬ Offers m net t a e b c
  no_offer_at (LocalAt.blank q none) p = none
  no_offer_at (LocalAt.filled x k q best) p = absurd (none_some p q)

  pub shortest_at : {d b : ℕ} {c : C} → GlobalAt m net t d a e → t a e ≡ Some (b, c) → Shortest m net d a e b c
  shortest_at (GlobalAt.blank q none) p = absurd (none_some q p)
  shortest_at {d} (GlobalAt.filled x k q best) p = let same = same_pair q p in subst₂ (Shortest m net d a e) same.0 same.1 best

  pub no_path_at : {d : ℕ} → GlobalAt m net t d a e → t a e ≡ None → (p : List ℕ) → ¬ Route net e a d p
  no_path_at (GlobalAt.blank q none) p = none
  no_path_at (GlobalAt.filled x k q best) p = absurd (none_some p q)

-- tables with the same entries
pub global_by : {C : Type 0} (m : Measure C) (net : Network) (t t' : Table C) (d : ℕ) → ((a : ℕ) (e : Class) → t' a e ≡ t a e) → Global m net t d → Global m net t' d
global_by m net t t' d same g = record { arrived = λ e. same d e ∙ g.arrived e; elsewhere = λ a near away e. at a e (g.elsewhere a near away e) }
  where
    at : (a : ℕ) (e : Class) → GlobalAt m net t d a e → GlobalAt m net t' d a e
    at a e (GlobalAt.blank p none) = GlobalAt.blank (same a e ∙ p) none
    at a e (GlobalAt.filled b c p s) = GlobalAt.filled b c (same a e ∙ p) s
