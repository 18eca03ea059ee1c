-- A natural number that falls from moment to moment. So no loop over rising moments goes on for ever.
use Rattle.std.specs.Prelude.{ℕ, zero, suc, Bool, true, false, cond, ◌+◌, ◌*◌, ◌<◌, ◌^◌, pos, ◌-ℤ◌}
use Rattle.kin_algebra.specs.declared.sign.Sign.{Sign}
use Rattle.kin_algebra.specs.declared.sign.Sign.TheVariants.{Minus, Zero, Plus}
use Rattle.kin_num.specs.declared.instant.Shape.{Shape}
use Rattle.kin_num.specs.declared.instant.Phase.{Phase}
use Rattle.kin_num.specs.declared.instant.Phase.TheVariants.{At, After}
use Rattle.kin_num.specs.declared.instant.Moment.{Moment}
use Rattle.kin_num.specs.Quadratic.{Quadratic}
use Rattle.kin_num.specs.Canonical.{IsCanonical}
use Rattle.kin_num.specs.Instants.{sign_at_instant, line}
use Rattle.kin_num.specs.Order.{IsEarlier}

-- how many of the numbers below n pass the test
unfoldable pub count_below : (ℕ → Bool) → ℕ → ℕ
count_below test zero = 0
count_below test (suc n) = cond (test n) (suc (count_below test n)) (count_below test n)

-- the sign isn't +
abbrev pub is_no_plus : Sign → Bool
is_no_plus Minus = true
is_no_plus Zero = true
is_no_plus Plus = false

-- Where the numbers come from: the whole part and the divisor of an instant's number are at most w = 2^33, and the coefficients
-- of its polynomial at most h = 2^31, so two different instants lie at least 1/(12*h^2*w^4) apart, which is more than 2^-200, and all of them
-- lie between -2^34 and 2^34.

-- a grain is a fraction of the denominator 2^200; this is the line of grain j, counted from -2^34 on
abbrev pub grain_line : ℕ → Quadratic
grain_line j = line (pos j -ℤ pos (2 ^ 234)) (pos (2 ^ 200))

-- the grain j lies at or after the instant
abbrev pub is_grain_left : Shape → ℕ → Bool
is_grain_left w j = is_no_plus (sign_at_instant (grain_line j) w)

-- how many grains from -2^34 on and below 2^34 lie at or after the instant
unfoldable pub grains_left : Shape → ℕ
grains_left w = count_below (is_grain_left w) (2 ^ 235)

-- at an instant, just after it is still to come
abbrev pub phases_left : Phase → ℕ
phases_left At = 1
phases_left After = 0

-- no more canonical moments than this come after the moment: no two instants lie within one grain
unfoldable pub moments_left : Moment → ℕ
moments_left m = 2 * grains_left m.at + phases_left m.phase

-- fewer are left from a later moment on
abbrev pub MomentsRunOut : Type 0
MomentsRunOut = (m n : Moment) → IsCanonical m.at → IsCanonical n.at → IsEarlier m n → moments_left n < moments_left m
