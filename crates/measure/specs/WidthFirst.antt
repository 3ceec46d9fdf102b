-- Width first and hops second is no measure: of two costs the first may be less, and behind one and the same link dearer. Assumes nothing.
use Rattle.std.specs.Prelude.{◌&&◌, ◌||◌, ◌==◌, nat_lt}
use Rattle.measure.specs.declared.hops_width.HopsWidthCost.{HopsWidthCost}
use Rattle.measure.specs.Measures.{Measure, Laws}
use Rattle.measure.specs.HopsWidth.{hops_width}

-- hops-width, but for the order: the greater width is less, then fewer hops
abbrev pub width_first : Measure HopsWidthCost
width_first = record {
  start = hops_width.start;
  extend = hops_width.extend;
  less = λ a b. nat_lt b.width a.width || (a.width == b.width && nat_lt a.hops b.hops);
  within = hops_width.within;
}

abbrev pub WidthFirstFails : Type 0
WidthFirstFails = Laws width_first → ⊥
