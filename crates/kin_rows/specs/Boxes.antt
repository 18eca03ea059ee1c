-- Points in rectangles.
use Rattle.std.specs.Prelude.{◌≡◌, pos, negsuc, List, [], ◌∷◌, Option}
use Rattle.kin_num.specs.declared.instant.Shape.TheVariants.{Ratio}
use Rattle.kin_num.specs.declared.instant.Phase.TheVariants.{At}
use Rattle.kin_motion.specs.Course.{Course}
use Rattle.kin_motion.specs.Boxes.{points_in}
use Rattle.kin_rows.specs.Settings.{point, at}
use Rattle.kin_motion.specs.declared.keep.Rect.{Rect}

-- closed bounds
abbrev pub sliding : List (Option Course)
sliding = point (pos 0) (pos 0) (pos 2) (pos 0) ∷ point (pos 0) (pos 0) (pos 4) (pos 4) ∷ point (pos 5) (pos 1) (negsuc 1) (pos 0) ∷ point (pos 0) (pos 1) (pos 1) (pos 0) ∷ []

abbrev pub bounds : Rect
bounds = record { x1 = pos 1; x2 = pos 4; y1 = pos 0; y2 = pos 2 }

-- points in a rectangle with its border
pub record SlidingRow : Type 0 where
  pub sliding_half : points_in sliding (record { at = Ratio (pos 1) (pos 2); phase = At }) bounds ≡ 0 ∷ 1 ∷ 2 ∷ []
  pub sliding_1 : points_in sliding (at (pos 1)) bounds ≡ 0 ∷ 2 ∷ 3 ∷ []
  pub sliding_none : points_in sliding (at (pos 1)) (record { x1 = pos 4; x2 = pos 1; y1 = pos 0; y2 = pos 2 }) ≡ []
