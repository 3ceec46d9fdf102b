-- What the laws of a measure give of `sooner`. Assumes nothing.
use Rattle.std.proofs.Common.{◌≡◌, ℕ, ◌≤◌, Bool, true, false, List, length, get_or, Some, sym, ap, subst, ◌∙◌, arith}
use Rattle.std.specs.Cmp.{IsStrictWeakOrder}
use Rattle.std.specs.List.{IsFirstBest}
use Rattle.std.proofs.lemmas.List.{get_or_read}
use Rattle.std.proofs.lemmas.Bool.Decides.{nat_tests}
use Rattle.measure.specs.Measures.{Measure, Laws}
use Rattle.waiting.specs.declared.types.Slot.{Slot}
use Rattle.waiting.specs.Slots.{waits, Apart, sooner}
use Rattle.waiting.specs.Calls.{Least}
use Rattle.waiting.proofs.Waits.{slot, waits_at, waits_from}

module _ {C : Type 0} (m : Measure C) (laws : Laws m) where
  abbrev less : C → C → Bool
  less = m.less

  one_way : (a b : C) → less a b ≡ true → less b a ≡ false
  one_way a b h = grind (arith, laws.irreflexive, laws.transitive a b a)

  chain : (a b c : C) → less a b ≡ false → less b c ≡ false → less a c ≡ false
  chain a b c h k = grind (arith, laws.transitive b a c, laws.antisymmetric a b)

  soon_one_way : (a b : C) (p q : ℕ) → sooner less (slot p a) (slot q b) ≡ true → sooner less (slot q b) (slot p a) ≡ false
  soon_one_way a b p q e = grind (arith, nat_tests, one_way a b)

  soon_chain : (a b c : C) (p q r : ℕ) → sooner less (slot p a) (slot q b) ≡ false → sooner less (slot q b) (slot r c) ≡ false → sooner less (slot p a) (slot r c) ≡ false
  soon_chain a b c p q r e f = grind (arith, nat_tests, chain a b c, laws.antisymmetric a c, laws.antisymmetric a b, laws.antisymmetric b c)

  pub ranks : IsStrictWeakOrder (sooner less)
  ranks = record { one_way = λ s t. soon_one_way s.cost t.cost s.place t.place; chain = λ s t u. soon_chain s.cost t.cost u.cost s.place t.place u.place }

  not_dearer : (a b : C) (p q : ℕ) → sooner less (slot p a) (slot q b) ≡ false → less a b ≡ false
  not_dearer a b p q e = grind (arith, nat_tests)

  not_smaller : (a b : C) (p q : ℕ) → sooner less (slot p a) (slot q b) ≡ false → less b a ≡ false → q ≤ p
  not_smaller a b p q e h = grind (arith, nat_tests, not_dearer a b p q e)

  -- the first best of the slots is the least of what waits
  pub least_first : (ys : List (Slot C)) → Apart (length ys) ys → (i : ℕ) (s : Slot C) → IsFirstBest (sooner less) ys (length ys) i → s ≡ get_or ys i s → Least less (waits ys) s.place s.cost
  least_first ys a i s best e =
      record {
        waits = subst (λ t. waits ys t.place ≡ Some t.cost) (sym e) (waits_at ys a i s best.0);
        cheapest = λ q c w. not_dearer c s.cost q s.place (later q c w);
        smallest = λ q c w. not_smaller c s.cost q s.place (later q c w);
      }
    where
      later : (q : ℕ) (c : C) → waits ys q ≡ Some c → sooner less (slot q c) s ≡ false
      later q c w =
          let h = waits_from ys q c w in
          let d = slot q c in
          ap (λ t. sooner less t s) (sym h.2) ∙ ap (sooner less (get_or ys h.0 d)) (get_or_read ys i s best.0 e d) ∙ best.1 h.0 d h.1
