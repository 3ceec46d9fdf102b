-- The figures that a link may have. Assumes nothing.
use Rattle.std.specs.Prelude.{ℕ, ◌≤◌, Bool, ◌&&◌, nat_le}
use Rattle.network.specs.declared.types.Figures.{Figures}

-- a delay or a width that a link may have
abbrev pub in_limits : ℕ → Bool
in_limits x = nat_le 1 x && nat_le x 1000000

pub record Limits (f : Figures) : Type 0 where
  pub delay_low : 1 ≤ f.delay
  pub delay_high : f.delay ≤ 1000000
  pub width_low : 1 ≤ f.width
  pub width_high : f.width ≤ 1000000
