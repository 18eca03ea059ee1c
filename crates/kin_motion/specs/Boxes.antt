-- The points in a rectangle.
use Rattle.std.specs.Prelude.{ℕ, ◌≤◌, ◌^◌, unsigned_abs, Bool, true, false, ◌&&◌, ℤ, pos, negsuc, List, Option, filter}
use lib.IntN.{neg_ℤ}
use Rattle.kin_algebra.specs.declared.sign.Sign.{Sign}
use Rattle.kin_algebra.specs.declared.sign.Sign.TheVariants.{Minus, Zero, Plus}
use Rattle.kin_num.specs.declared.instant.Moment.{Moment}
use Rattle.kin_num.specs.Instants.{sign_at}
use Rattle.kin_motion.specs.declared.keep.Rect.{Rect}
use Rattle.kin_motion.specs.Course.{Course}
use Rattle.kin_motion.specs.Forms.{along, x_of, y_of}
use Rattle.kin_motion.specs.Numbers.{filled_from}

-- the border of a rectangle is in -2^24..2^24
pub record IsRectInRange (r : Rect) : Type 0 where
  pub x1_small : unsigned_abs r.x1 ≤ 2 ^ 24
  pub x2_small : unsigned_abs r.x2 ≤ 2 ^ 24
  pub y1_small : unsigned_abs r.y1 ≤ 2 ^ 24
  pub y2_small : unsigned_abs r.y2 ≤ 2 ^ 24

-- + or 0
abbrev pub is_not_minus : Sign → Bool
is_not_minus Minus = false
is_not_minus Zero = true
is_not_minus Plus = true

-- whether dx*x + dy*y + off is at least 0 for a point
abbrev pub is_at_least : List (Option Course) → Moment → ℤ → ℤ → ℤ → ℕ → Bool
is_at_least ms m dx dy off i = is_not_minus (sign_at (along dx dy off (x_of ms i) (y_of ms i)) m)

-- on or within the border
abbrev pub is_inside : List (Option Course) → Moment → Rect → ℕ → Bool
is_inside ms m r i =
    is_at_least ms m (pos 1) (pos 0) (neg_ℤ r.x1) i && is_at_least ms m (negsuc 0) (pos 0) r.x2 i
    && is_at_least ms m (pos 0) (pos 1) (neg_ℤ r.y1) i && is_at_least ms m (pos 0) (negsuc 0) r.y2 i

-- the live numbers inside, rising
abbrev pub points_in : List (Option Course) → Moment → Rect → List ℕ
points_in ms m r = filter (is_inside ms m r) (filled_from 0 ms)
