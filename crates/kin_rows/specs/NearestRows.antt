-- Nearest other points of a unit square, of points of which one passes the others, and of points at one place.
use Rattle.std.specs.Prelude.{◌≡◌, pos, negsuc, List, [], ◌∷◌, Option, Some, None}
use Rattle.kin_num.specs.declared.instant.Shape.TheVariants.{Ratio}
use Rattle.kin_num.specs.declared.instant.Phase.TheVariants.{At}
use Rattle.kin_num.specs.declared.instant.Moment.{Moment}
use Rattle.kin_motion.specs.declared.keep.Keep.TheVariants.{Nearest}
use Rattle.kin_motion.specs.Course.{Course}
use Rattle.kin_motion.specs.Nearest.{nearest_of}
use Rattle.kin_motion.specs.Scene.{scene_at}
use Rattle.kin_rows.specs.Passing.{passing}
use Rattle.kin_rows.specs.Settings.{point, at, after, setting, count_at}
use Rattle.kin_rows.specs.Square.{square}

abbrev pub three_halves : Moment
three_halves = record { at = Ratio (pos 3) (pos 2); phase = At }

-- three points that are at one place at 2 alone
abbrev pub meeting : List (Option Course)
meeting = point (pos 0) (pos 0) (pos 1) (pos 0) ∷ point (pos 2) (pos 0) (pos 0) (pos 0) ∷ point (pos 8) (pos 0) (negsuc 2) (pos 0) ∷ []

-- the nearest other points, and the number of facts
pub record NearestRows : Type 0 where
  -- two points of the square are as near, and the lesser number is the nearest
  pub square_nearest_0 : nearest_of (scene_at square (at (pos 0))) 0 ≡ Some 1
  pub square_nearest_2 : nearest_of (scene_at square (at (pos 0))) 2 ≡ Some 1
  pub square_nearest_3 : nearest_of (scene_at square (at (pos 0))) 3 ≡ Some 0
  pub square_facts : count_at (setting 2 (Nearest ∷ []) square) (at (pos 0)) ≡ 24
  -- point 1 comes to point 2 at 3/2, and to point 0 at 2
  pub passing_nearest_0 : nearest_of (scene_at passing (at (pos 0))) 0 ≡ Some 2
  pub passing_nearest_0_then : nearest_of (scene_at passing three_halves) 0 ≡ Some 1
  pub passing_nearest_2_then : nearest_of (scene_at passing three_halves) 2 ≡ Some 1
  pub passing_nearest_2_last : nearest_of (scene_at passing (at (pos 2))) 2 ≡ Some 0
  -- at one place the least other number is the nearest
  pub meeting_nearest_0 : nearest_of (scene_at meeting (at (pos 2))) 0 ≡ Some 1
  pub meeting_nearest_2 : nearest_of (scene_at meeting (at (pos 2))) 2 ≡ Some 0
  -- and just after, point 1 is one step away from point 0, and three from point 2
  pub meeting_nearest_1_after : nearest_of (scene_at meeting (after (pos 2))) 1 ≡ Some 0
  pub meeting_nearest_2_after : nearest_of (scene_at meeting (after (pos 2))) 2 ≡ Some 1
  pub alone_nearest : nearest_of (scene_at (point (pos 0) (pos 0) (pos 0) (pos 0) ∷ []) (at (pos 0))) 0 ≡ None
