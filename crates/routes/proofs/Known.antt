-- What is known of results, and of what a store answers. Assumes nothing.
use Rattle.std.specs.Prelude.{slice_get}
use Rattle.std.proofs.lemmas.Option.{slice_get-get_or}
use Rattle.std.proofs.Common.{◌≡◌, ℕ, ◌<◌, List, length, Some, Ok, Err, Result, ap, ◌∙◌, arith}
use Rattle.network.specs.declared.types.Relation.{Relation}
use Rattle.network.specs.declared.types.Figures.{Figures}
use Rattle.network.specs.declared.types.Link.{Link}
use Rattle.network.specs.Limits.{Limits}
use Rattle.network.specs.Rosters.{place}
use Rattle.network.specs.Steps.{step_of}
use Rattle.network.specs.Sound.{Sound}
use Rattle.network.proofs.Rising.{place_stands}
use Rattle.legality.proofs.Links.{network_sound}

pub ok_inj : {A R : Type 0} {x y : A} → ◌≡◌ {A = Result A R} (Ok x) (Ok y) → x ≡ y
ok_inj p = cc

pub err_ok : {A R : Type 0} {x : R} {y : A} {r : Result A R} → r ≡ Err x → r ≡ Ok y → ⊥
err_ok p q = let z : ◌≡◌ {A = ℕ} 0 1 = cc in omega arith

-- an AS that has a place stands there
pub place_known : (roster : List ℕ) (a i : ℕ) → place roster a ≡ Some i → slice_get roster i ≡ Some a
place_known roster a i e = let s = place_stands roster a i e in slice_get-get_or roster i 0 s.within ∙ ap Some s.is

pub place_within : (roster : List ℕ) (a i : ℕ) → place roster a ≡ Some i → i < length roster
place_within roster a i e = (place_stands roster a i e).within

-- the figures of a step are in their limits
pub step_limits : (roster : List ℕ) (book : List Link) (a b : ℕ) (w : Relation) (f : Figures) → Sound roster book → step_of book a b ≡ Some (w, f) → Limits f
step_limits roster book a b w f sound e = (network_sound roster book sound).limits a b w f e
