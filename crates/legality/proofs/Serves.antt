-- `Served`, without its recursion. Assumes nothing.
use Rattle.std.proofs.Common.{◌≡◌, ℕ, ◌⊎◌, List, [], ◌∷◌, ◌++◌, refl, ap, subst}
use Rattle.legality.specs.Networks.{Network}
use Rattle.legality.specs.Paths.{CustomerOf, Served}

module _ (net : Network) where
  abbrev Everywhere : List ℕ → Type 0
  Everywhere p = (u v : List ℕ) (x y z : ℕ) → p ≡ u ++ (x ∷ (y ∷ (z ∷ v))) → CustomerOf net y x ⊎ CustomerOf net y z

  shown : (u v : List ℕ) (x y z : ℕ) → Served net (u ++ (x ∷ (y ∷ (z ∷ v)))) → CustomerOf net y x ⊎ CustomerOf net y z
  shown [] v x y z s = s.0
  shown (a ∷ []) v x y z s = shown [] v x y z s.1
  shown (a ∷ (b ∷ [])) v x y z s = shown (b ∷ []) v x y z s.1
  shown (a ∷ (b ∷ (c ∷ u))) v x y z s = shown (b ∷ (c ∷ u)) v x y z s.1

  pub served_to : (p : List ℕ) → Served net p → Everywhere p
  served_to p s u v x y z e = shown u v x y z (subst (Served net) e s)

  pub served_from : (p : List ℕ) → Everywhere p → Served net p
  served_from [] h = tt
  served_from (a ∷ []) h = tt
  served_from (a ∷ (b ∷ [])) h = tt
  served_from (a ∷ (b ∷ (c ∷ r))) h = (h [] r a b c refl, served_from (b ∷ (c ∷ r)) (λ u v x y z e. h (a ∷ u) v x y z (ap (λ q. a ∷ q) e)))
