-- The sides of a rectangle, two and two.
use Rattle.std.specs.Prelude.{ℕ, pos, negsuc, Bool, ◌&&◌, List, Option}
use lib.IntN.{neg_ℤ}
use Rattle.kin_num.specs.declared.instant.Moment.{Moment}
use Rattle.kin_motion.specs.declared.keep.Rect.{Rect}
use Rattle.kin_motion.specs.Boxes.{is_at_least}
use Rattle.kin_motion.specs.Course.{Course}

-- between the left and the right side
abbrev pub is_between_x : List (Option Course) → Moment → Rect → ℕ → Bool
is_between_x ms m r i = is_at_least ms m (pos 1) (pos 0) (neg_ℤ r.x1) i && is_at_least ms m (negsuc 0) (pos 0) r.x2 i

-- between the lower and the upper side
abbrev pub is_between_y : List (Option Course) → Moment → Rect → ℕ → Bool
is_between_y ms m r i = is_at_least ms m (pos 0) (pos 1) (neg_ℤ r.y1) i && is_at_least ms m (pos 0) (negsuc 0) r.y2 i
