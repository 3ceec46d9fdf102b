-- Delays keep the laws of a measure. Assumes nothing.
use Rattle.std.specs.Prelude.{◌+◌, ◌*◌, ◌≤◌, List, [], ◌∷◌, length}
use Rattle.std.proofs.Common.{arith}
use Rattle.std.specs.List.{AllByRecursion}
use Rattle.std.proofs.lemmas.Bool.{ltb-true, ltb-false, lt-ltb, le-ltb, le-leb}
use Rattle.network.specs.declared.types.Figures.{Figures}
use Rattle.network.specs.Limits.{Limits}
use Rattle.measure.specs.Measures.{Laws, total}
use Rattle.measure.specs.Delay.{delay}

delay_range : (fs : List Figures) → AllByRecursion Limits fs → total delay fs ≤ length fs * 1000000
delay_range [] h = omega arith
delay_range (f ∷ fs) h = omega (arith, h.0.delay_high, delay_range fs h.1)

pub delay_laws : Laws delay
delay_laws = record {
  irreflexive = λ p. le-ltb p p (omega arith);
  transitive = λ p q r h k. lt-ltb p r (omega (arith, ltb-true p q h, ltb-true q r k));
  antisymmetric = λ p q h k. omega (arith, ltb-false q p h, ltb-false p q k);
  monotone = λ p q f i j n h. le-ltb (q + f.delay) (p + f.delay) (omega (arith, ltb-false q p h));
  strict = λ p f i n. lt-ltb p (p + f.delay) (omega (arith, n.delay_low));
  range = λ fs h n. le-leb (total delay fs) 1024000000 (omega (arith, delay_range fs h));
}
