-- What a quadratic leaves when a multiple of it is divided by another one.
use Rattle.std.specs.Prelude.{ℤ, ◌-ℤ◌, ◌*ℤ◌}
use Rattle.kin_num.specs.Quadratic.{Quadratic}

-- a times p, less p.a times (a, b, c), is slope * t + start: the slope
abbrev pub remainder_slope_of : Quadratic → ℤ → ℤ → ℤ
remainder_slope_of p a b = a *ℤ p.b -ℤ b *ℤ p.a

-- and the start
abbrev pub remainder_start_of : Quadratic → ℤ → ℤ → ℤ
remainder_start_of p a c = a *ℤ p.c -ℤ c *ℤ p.a
