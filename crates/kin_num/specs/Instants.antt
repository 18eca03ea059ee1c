-- The number that an instant is, and signs of polynomials at instants and at moments.
use Rattle.std.specs.Prelude.{Bool, true, false, ◌^◌, ℤ, pos, negsuc, ◌+ℤ◌, ◌*ℤ◌}
use lib.IntN.{neg_ℤ}
use Rattle.kin_algebra.specs.declared.sign.Sign.{Sign}
use Rattle.kin_algebra.specs.declared.sign.Sign.TheVariants.{Minus, Plus}
use Rattle.kin_algebra.specs.Signs.{pair_sign_of, first_of}
use Rattle.kin_num.specs.declared.instant.Shape.{Shape}
use Rattle.kin_num.specs.declared.instant.Shape.TheVariants.{Ratio, Root}
use Rattle.kin_num.specs.declared.instant.Phase.{Phase}
use Rattle.kin_num.specs.declared.instant.Phase.TheVariants.{At, After}
use Rattle.kin_num.specs.declared.instant.Moment.{Moment}
use Rattle.kin_num.specs.Quadratic.{Quadratic}
use Rattle.kin_num.specs.Canonical.{discriminant}

-- (whole + root * sqrt(radicand)) / divisor
pub record Number : Type 0 where
  pub whole : ℤ
  pub root : ℤ
  pub radicand : ℤ
  pub divisor : ℤ

-- the number that an instant is
abbrev pub number_of : Shape → Number
number_of (Ratio n d) = record { whole = n; root = pos 0; radicand = pos 0; divisor = d }
number_of (Root a b c true) = record { whole = neg_ℤ b; root = pos 1; radicand = discriminant a b c; divisor = pos 2 *ℤ a }
number_of (Root a b c false) = record { whole = neg_ℤ b; root = negsuc 0; radicand = discriminant a b c; divisor = pos 2 *ℤ a }

-- the sign before the square root in a root: + in the greater one
abbrev pub side : Bool → Sign
side true = Plus
side false = Minus

-- The value of a polynomial at a number, times the square of the divisor, is whole_part + root_part * sqrt(radicand).

-- the part without the root
abbrev pub whole_part : Quadratic → Number → ℤ
whole_part p x =
    p.a *ℤ (x.whole *ℤ x.whole +ℤ x.root *ℤ x.root *ℤ x.radicand) +ℤ p.b *ℤ x.whole *ℤ x.divisor +ℤ p.c *ℤ x.divisor *ℤ x.divisor

-- the part with the root
abbrev pub root_part : Quadratic → Number → ℤ
root_part p x = pos 2 *ℤ p.a *ℤ x.whole *ℤ x.root +ℤ p.b *ℤ x.root *ℤ x.divisor

-- the sign of a polynomial at a number
abbrev pub sign_at_number : Quadratic → Number → Sign
sign_at_number p x = pair_sign_of (whole_part p x) (root_part p x) x.radicand

-- the sign of a polynomial at an instant
unfoldable pub sign_at_instant : Quadratic → Shape → Sign
sign_at_instant p w = sign_at_number p (number_of w)

-- the derivative 2*a*t + b
abbrev pub derivative : Quadratic → Quadratic
derivative p = record { a = pos 0; b = pos 2 *ℤ p.a; c = p.b }

-- just after an instant the sign is that of the first of P, P', P'' that isn't 0 there
abbrev pub sign_at_phase : Quadratic → Shape → Phase → Sign
sign_at_phase p w At = sign_at_instant p w
sign_at_phase p w After = first_of (sign_at_instant p w) (first_of (sign_at_instant (derivative p) w) (sign_at_instant (derivative (derivative p)) w))

-- the sign of a polynomial at a moment
unfoldable pub sign_at : Quadratic → Moment → Sign
sign_at p m = sign_at_phase p m.at m.phase

-- the line d*t - n
abbrev pub line : ℤ → ℤ → Quadratic
line n d = record { a = pos 0; b = d; c = neg_ℤ n }

-- the number 1/t later
abbrev pub later_by : ℤ → Number → Number
later_by t x = record { whole = x.whole *ℤ t +ℤ x.divisor; root = x.root *ℤ t; radicand = x.radicand; divisor = x.divisor *ℤ t }

-- the seat of a moment: a number at which each polynomial has the sign that it has at the moment
abbrev pub seat_of : Shape → Phase → Number
seat_of w At = number_of w
seat_of w After = later_by (pos (2 ^ 200)) (number_of w)
