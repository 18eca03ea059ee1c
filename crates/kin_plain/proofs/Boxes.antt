-- The sides of a rectangle.
use Rattle.std.proofs.Common.{◌≡◌, refl, sym, ap, ◌∙◌, subst, Bool, true, false, ◌&&◌, List, ℕ, ℤ, pos, ◌+ℤ◌, ◌*ℤ◌}
use Rattle.std.specs.Prelude.{Option, Some}
use Rattle.kin_motion.specs.Course.{Course, motion_of}
use Rattle.kin_motion.specs.Forms.{along, x_of, y_of, x_of_course, y_of_course}

-- how far a point is beyond a side
pub side_polynomial : (ms : List (Option Course)) (i : ℕ) (course : Course) (dx dy off b c : ℤ) → motion_of ms i ≡ Some course → b ≡ dx *ℤ course.u +ℤ dy *ℤ course.v
    → c ≡ dx *ℤ course.x +ℤ dy *ℤ course.y +ℤ off
    → record { a = pos 0; b = b; c = c } ≡ along dx dy off (x_of ms i) (y_of ms i)
side_polynomial ms i course dx dy off b c known e f =
    subst (λ (found : Option Course). record { a = pos 0; b = b; c = c } ≡ along dx dy off (x_of_course found) (y_of_course found)) (sym known) (λ t. record { a = pos 0; b = e t; c = f t })

-- between the sides along x, and between those along y
pub between_both : (a b c d x y : Bool) → x ≡ (a && b) → y ≡ (c && d) → (x && y) ≡ (a && b && c && d)
between_both a b c d x y e f = ap (λ t. t && y) e ∙ ap (λ t. (a && b) && t) f ∙ at a b
  where
    at : (a b : Bool) → ((a && b) && (c && d)) ≡ (a && b && c && d)
    at true true = refl
    at true false = refl
    at false b = refl
