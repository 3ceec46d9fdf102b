-- A measure: delays add up. Assumes nothing.
use Rattle.std.specs.Prelude.{ℕ, ◌+◌, nat_le, nat_lt}
use Rattle.measure.specs.Measures.{Measure}

abbrev pub delay : Measure ℕ
delay = record {
  start = 0;
  extend = λ c f. c + f.delay;
  less = nat_lt;
  within = λ c. nat_le c 1024000000;
}
