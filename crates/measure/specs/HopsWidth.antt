-- A measure: fewer links first, then the greater width. Assumes nothing.
use Rattle.std.specs.Prelude.{ℕ, ◌+◌, min, ◌&&◌, ◌||◌, List, ◌++◌, codes, decimal, ◌==◌, nat_le, nat_lt}
use Rattle.measure.specs.declared.hops_width.HopsWidthCost.{HopsWidthCost}
use Rattle.measure.specs.Measures.{Measure}

abbrev pub hops_cost : ℕ → ℕ → HopsWidthCost
hops_cost h w = record { hops = h; width = w }

abbrev pub hops_width : Measure HopsWidthCost
hops_width = record {
  start = hops_cost 0 1000000;
  extend = λ c f. hops_cost (c.hops + 1) (min c.width f.width);
  less = λ a b. nat_lt a.hops b.hops || (a.hops == b.hops && nat_lt b.width a.width);
  within = λ c. nat_le c.hops 1024 && (nat_le 1 c.width && nat_le c.width 1000000);
}

-- how a cost is written: its hops, a stroke and its width
abbrev pub hops_width_text : HopsWidthCost → List ℕ
hops_width_text c = decimal c.hops ++ (codes "/" ++ decimal c.width)
