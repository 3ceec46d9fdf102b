use Rattle.std.proofs.Common.{true, refl, arith}
use Rattle.std.proofs.lemmas.Bool.{both_ways}
use Rattle.network.specs.declared.types.Figures.{Figures}
use Rattle.measure.specs.HopsWidth.{hops_cost}
use Rattle.measure.proofs.hops_width.width_first_fails.Goals as goal

-- a link of width 3
narrow : Figures
narrow = record { delay = 1; width = 3 }

pub returns : goal.returns
unfolding narrow
returns c = λ laws. both_ways true (laws.monotone (hops_cost 5 10) (hops_cost 1 5) narrow refl refl (record { delay_low = omega arith; delay_high = omega arith; width_low = omega arith; width_high = omega arith }) refl) refl
