-- An AS noted among others, at the spot where a search would have it. Assumes nothing.
use Rattle.std.proofs.Common.{◌≡◌, ℕ, zero, suc, ◌<◌, ◌≤◌, Bool, true, cond, ◌⊎◌, List, [], ◌∷◌, length, get_or, Ok, Err, Result, refl, ap, subst, inl, inr, arith}
use Rattle.std.specs.List.{insert}
use Rattle.std.specs.List.Sorted.{IsBinarySearchResult}
use Rattle.std.specs.Ordering.{nat_cmp}
use Rattle.std.specs.Result.{MatchResult}
use Rattle.std.proofs.lemmas.Bool.{cases_lt}
use Rattle.std.proofs.lemmas.Bool.Decides.{nat_tests}
use Rattle.std.proofs.lemmas.List.Edits.{length-insert}
use Rattle.std.proofs.lemmas.List.Sorted.{searched}
use Rattle.network.specs.Rosters.{climbs}
use Rattle.network.proofs.Rising.{Rising, rising}
use Rattle.link_text.specs.declared.types.Field.{Field}
use Rattle.link_list.specs.declared.types.Cause.TheVariants.{TooManyAses}
use Rattle.listing.specs.Surveys.{noted, as_survey}

-- an AS that is there stays alone
known : (a : ℕ) (xs : List ℕ) (i : ℕ) → Rising xs → i < length xs → get_or xs i 0 ≡ a → noted a xs ≡ xs
known a [] i up h e = absurd (omega arith)
known a (b ∷ bs) zero up h e = grind (arith, nat_tests)
known a (b ∷ bs) (suc i) up h e =
    let low : b < get_or bs i 0 = up 0 (suc i) (omega arith) h in
    let more = known a bs i (λ j k l m. up (suc j) (suc k) (omega arith) (omega arith)) (omega arith) e in
    grind (arith, nat_tests)

-- a new AS goes between those that are less and those that are greater
fresh : (a : ℕ) (xs : List ℕ) (i : ℕ) → i ≤ length xs → ((k : ℕ) → k < i → get_or xs k 0 < a) → ((k : ℕ) → i ≤ k → k < length xs → a < get_or xs k 0) → noted a xs ≡ insert xs i a
fresh a [] zero h less more = refl
fresh a [] (suc i) h less more = absurd (omega arith)
fresh a (b ∷ bs) zero h less more = let high : a < b = more 0 (omega arith) (omega arith) in grind (arith, nat_tests)
fresh a (b ∷ bs) (suc i) h less more =
    let low : b < a = less 0 (omega arith) in
    let rest = fresh a bs i (omega arith) (λ k l. less (suc k) (omega arith)) (λ k l m. more (suc k) (omega arith) (omega arith)) in
    grind (arith, nat_tests)

no_fall : (xs : List ℕ) → Rising xs → (i j : ℕ) → i ≤ j → j < length xs → get_or xs i 0 ≤ get_or xs j 0
no_fall xs up i j l m = go (cases_lt i j)
  where
    go : (i < j) ⊎ (j ≤ i) → get_or xs i 0 ≤ get_or xs j 0
    go (inl h) = let low = up i j h m in omega (arith, low)
    go (inr h) =
        let same : i ≡ j = omega arith in
        let is = ap (λ k. get_or xs k 0) same in
        omega (arith, is)

-- what a search of the ASes, ys, says of one that is noted
pub searched_noted : (a : ℕ) (xs ys : List ℕ) (r : Result ℕ ℕ) → climbs 0 xs ≡ true → ys ≡ xs → IsBinarySearchResult (λ y. nat_cmp y a) ys r → MatchResult r (λ i. noted a xs ≡ xs) (λ i. (i ≤ length xs) × (noted a xs ≡ insert xs i a))
searched_noted a xs ys r c e h = go r (searched xs a r (subst (λ zs. IsBinarySearchResult (λ y. nat_cmp y a) zs r) e h) (no_fall xs up))
  where
    up : Rising xs
    up = rising 0 xs c

    go : (r : Result ℕ ℕ) → MatchResult r (λ i. (i < length xs) × (get_or xs i 0 ≡ a)) (λ i. (i ≤ length xs) × ((k : ℕ) → k < i → get_or xs k 0 < a) × ((k : ℕ) → i ≤ k → k < length xs → a < get_or xs k 0)) →
        MatchResult r (λ i. noted a xs ≡ xs) (λ i. (i ≤ length xs) × (noted a xs ≡ insert xs i a))
    go (Ok i) t = known a xs i up t.0 t.1
    go (Err i) t = (t.0, fresh a xs i t.0 t.1 t.2)

-- no more than 24 are taken
pub taken : (f : Field) (a : ℕ) (xs ys : List ℕ) → noted a xs ≡ ys → length ys ≤ 24 → as_survey f xs (Ok a) ≡ Ok ys
taken f a xs ys e h = grind (arith, nat_tests)

pub too_many : (f : Field) (a : ℕ) (xs : List ℕ) (i : ℕ) → length xs ≡ 24 → i ≤ length xs → noted a xs ≡ insert xs i a → as_survey f xs (Ok a) ≡ Err (TooManyAses f)
too_many f a xs i full h e = let n = length-insert xs i a h in grind (arith, nat_tests)

-- what an insert leaves that is not refused
pub added : (a : ℕ) (xs ys : List ℕ) (i : ℕ) (b : Bool) → b ≡ true → ys ≡ cond b (insert xs i a) xs → noted a xs ≡ insert xs i a → noted a xs ≡ ys
added a xs ys i b t e s = grind (arith, nat_tests)
