-- The start of the method: a blank column, but for the destination's two entries, which wait. Assumes nothing.
use Rattle.std.proofs.Common.{◌≡◌, ℕ, ◌*◌, ◌<◌, ◌≢◌, List, length, get_or, set, Some, None, Option, refl, ap, ◌∙◌, inl, arith}
use Rattle.std.proofs.lemmas.List.{length-set}
use Rattle.std.proofs.lemmas.List.Elements.{All-from_get_or}
use Rattle.network.specs.declared.types.Link.{Link}
use Rattle.network.specs.Rosters.{place}
use Rattle.network.specs.Sound.{Sound}
use Rattle.network.proofs.Rising.{rising, place_stands, place_at, stands_among}
use Rattle.measure.specs.declared.Measure.{Ghosts}
use Rattle.measure.specs.Measures.{Laws}
use Rattle.legality.specs.declared.types.Class.{Class}
use Rattle.legality.specs.declared.types.Class.TheVariants.{Home, Outside}
use Rattle.legality.proofs.Links.{network_sound}
use Rattle.waiting.specs.Lists.{held}
use Rattle.waiting.specs.Calls.{Sets}
use Rattle.labels.proofs.Turns.{start}
use Rattle.table.specs.declared.types.Entry.{Entry}
use Rattle.table.specs.Columns.{entry, blank, read, pair, at_place, Row}
use Rattle.table.proofs.Rows.{read_blank, read_filled}
use Rattle.table.proofs.Pairs.{pair_below}
use Rattle.settle.specs.declared.filling.Filling.{Filling}
use Rattle.settle.specs.States.{waits_of, rows_of, Tidy, Between}
use Rattle.settle.specs.Offers.{entry_at}
use Rattle.settle.proofs.Lifts.{rows_here, rows_elsewhere, waits_here, waits_elsewhere, set_tidy}

home_outside : Home ≢ Outside
home_outside p = cc

-- A blank column x of which nothing waits, then y with one entry, and z with both.
module _ {X C : Type 0} {g : Ghosts X C} (laws : Laws g.measure) (roster : List ℕ) (book : List Link) (sound : Sound roster book) (i : ℕ) (inside : i < length roster)
    (x y z : Filling X C g) (long : length x.column.now ≡ 2 * length roster) (clear : (p : ℕ) → p < length x.column.now → entry_at x p ≡ blank g.measure.start) (none : (p : ℕ) → held x.waiting p ≡ None)
    (one : y.column.now ≡ set x.column.now (pair i Home) (entry i g.measure.start)) (two : z.column.now ≡ set y.column.now (pair i Outside) (entry i g.measure.start))
    (first : Sets (held x.waiting) (held y.waiting) (pair i Home) (Some g.measure.start)) (second : Sets (held y.waiting) (held z.waiting) (pair i Outside) (Some g.measure.start)) where
  abbrev d : ℕ
  d = get_or roster i 0

  abbrev s : C
  s = g.measure.start

  abbrev v : Entry C
  v = entry i s

  here : place roster d ≡ Some i
  here = place_at roster (rising 0 roster sound.rising) i inside

  read_v : read roster v ≡ Some (d, s)
  read_v = read_filled roster v (λ z. let h = sound.few in omega arith)

  filled_here : (e : Class) → rows_of roster z d e ≡ Some (d, s)
  filled_here Home =
      rows_elsewhere roster y z d i Outside here v two d Home (λ h. home_outside h.1) ∙
      rows_here roster x y d i Home here v one (omega (arith, pair_below i (length roster) Home inside)) ∙ read_v
  filled_here Outside =
      rows_here roster y z d i Outside here v two (let e = ap length one ∙ length-set x.column.now (pair i Home) v in omega (arith, pair_below i (length roster) Outside inside)) ∙ read_v

  blank_there : (a : ℕ) (e : Class) → a ≢ d → rows_of roster z a e ≡ None
  blank_there a e n =
      rows_elsewhere roster y z d i Outside here v two a e (λ h. n h.0) ∙ rows_elsewhere roster x y d i Home here v one a e (λ h. n h.0) ∙ go (place roster a) refl
    where
      go : (o : Option ℕ) → place roster a ≡ o → at_place o (λ j. read roster (entry_at x (pair j e))) ≡ None
      go None q = refl
      go (Some j) q =
          ap (read roster) (clear (pair j e) (let h = pair_below j (length roster) e (place_stands roster a j q).within in omega arith)) ∙
          read_blank roster (blank s) refl

  both_wait : (e : Class) → waits_of roster z.waiting d e ≡ Some s
  both_wait Home = waits_elsewhere roster y.waiting z.waiting d i Outside here (Some s) second d Home (λ h. home_outside h.1) ∙ waits_here roster x.waiting y.waiting d i Home here (Some s) first
  both_wait Outside = waits_here roster y.waiting z.waiting d i Outside here (Some s) second

  idle_there : (a : ℕ) (e : Class) → a ≢ d → waits_of roster z.waiting a e ≡ None
  idle_there a e n =
      waits_elsewhere roster y.waiting z.waiting d i Outside here (Some s) second a e (λ h. n h.0) ∙ waits_elsewhere roster x.waiting y.waiting d i Home here (Some s) first a e (λ h. n h.0) ∙ go (place roster a)
    where
      go : (o : Option ℕ) → at_place o (λ j. held x.waiting (pair j e)) ≡ None
      go None = refl
      go (Some j) = none (pair j e)

  tidy_x : Tidy roster x
  tidy_x = record { long = long; rows = All-from_get_or (Row s (length roster)) x.column.now (blank s) (λ p h. inl (ap (λ k. k.next) (clear p h), ap (λ k. k.cost) (clear p h))) }

  pub started : Between roster book (get_or roster i 0) z
  started =
      record {
        tidy = set_tidy roster y z (pair i Outside) v two inside (set_tidy roster x y (pair i Home) v one inside tidy_x);
        going = start laws (network_sound roster book sound) d (rows_of roster z) (waits_of roster z.waiting) (stands_among roster i inside) filled_here blank_there both_wait idle_there;
      }
