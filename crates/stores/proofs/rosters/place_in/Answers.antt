use Rattle.std.proofs.Common.{◌≡◌, ℕ, ◌≤◌, ◌<◌, true, List, length, get_or, Ok, Err, Result, sym, ap, ◌∙◌, arith}
use Rattle.std.specs.List.Sorted.{IsBinarySearchResult}
use Rattle.std.specs.Ordering.{nat_cmp}
use Rattle.std.specs.Result.{result_ok}
use Rattle.std.proofs.lemmas.List.Sorted.{searched}
use Rattle.network.specs.Rosters.{climbs, place}
use Rattle.network.proofs.Rising.{rising, place_at}
use Rattle.network.proofs.Rosters.{place_nowhere}
use Rattle.stores.proofs.rosters.place_in.Goals as goal

-- a search of a roster ends at the place of the AS
module _ (roster : List ℕ) (a : ℕ) (climbing : climbs 0 roster ≡ true) where
  rises : (i j : ℕ) → i ≤ j → j < length roster → get_or roster i 0 ≤ get_or roster j 0
  rises i j h k = grind (arith, rising 0 roster climbing i j, λ (same : i ≡ j). ap (λ n. get_or roster n 0) same)

  found : (r : Result ℕ ℕ) → IsBinarySearchResult (λ y. nat_cmp y a) roster r → result_ok r ≡ place roster a
  found (Ok i) e = let s = searched roster a (Ok i) e rises in sym (ap (place roster) (sym s.1) ∙ place_at roster (rising 0 roster climbing) i s.0)
  found (Err i) e = let s = searched roster a (Err i) e rises in sym (place_nowhere roster a (λ k h same. grind (arith, s.1 k, s.2 k)))

pub returns : goal.returns
returns c = c.ok.ensures.value ∙ found c.args.roster.now c.args.number c.requires c.binary_search.result c.binary_search.ensures.position
