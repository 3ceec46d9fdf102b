-- Every AS of a roster is settled in turn. Assumes nothing.
use Rattle.std.proofs.Common.{arith, rules, ◌≡◌, ℕ, ◌+◌, ◌*◌, ◌<◌, ◌≤◌, true, false, ◌||◌, eqb, ◌⊎◌, List, [], ◌∷◌, ◌++◌, length, get_or, take, Some, None, subst, inl, inr}
use Rattle.std.proofs.lemmas.List.{take_more}
use Rattle.std.proofs.lemmas.Bool.Decides.{nat_tests}
use Rattle.network.specs.Rosters.{Among, place}
use Rattle.table.specs.Memory.{small}
use Rattle.routes.specs.Routes.{has}
use Rattle.settle.specs.Memory.{Memory}
use Rattle.settle.specs.Settled.{cause}

-- a settle of an AS of the roster, with memory enough, is not refused
pub no_cause : {C : Type 0} (roster : List ℕ) (a i : ℕ) (memory : Memory C) → small (length roster) memory.entries memory.marks ≡ false → 2 * length roster ≤ length memory.waiting → 2 * length roster ≤ length memory.numbers → place roster a ≡ Some i → cause roster a memory ≡ None
no_cause roster a i memory large slots numbers here = grind (arith, nat_tests)

among_push : {X : Type 0} (xs : List X) (y x : X) → Among x (xs ++ y ∷ []) → Among x xs ⊎ (x ≡ y)
among_push [] y x (inl e) = inr e
among_push [] y x (inr h) = absurd h
among_push (z ∷ xs) y x (inl e) = inl (inl e)
among_push (z ∷ xs) y x (inr h) = search (rules, among_push xs y x h)

-- one AS more is settled
pub has_more : (ases settled : List ℕ) (i : ℕ) → i < length ases → ((a : ℕ) → Among a (take i ases) → has settled a ≡ true) → (a : ℕ) → Among a (take (i + 1) ases) → has (get_or ases i 0 ∷ settled) a ≡ true
has_more ases settled i h all a k = go (among_push (take i ases) (get_or ases i 0) a (subst (Among a) (take_more ases i 0 h) k))
  where
    go : Among a (take i ases) ⊎ (a ≡ get_or ases i 0) → (eqb (get_or ases i 0) a || has settled a) ≡ true
    go (inl m) = let more = all a m in grind (arith, nat_tests)
    go (inr e) = grind (arith, nat_tests)
