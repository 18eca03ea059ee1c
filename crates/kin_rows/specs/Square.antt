-- The octants of a unit square.
use Rattle.std.specs.Prelude.{◌≡◌, ℕ, pos, List, [], ◌∷◌, Option, Some, None, slice_get, option_and_then}
use Rattle.kin_motion.specs.Course.{Course}
use Rattle.kin_motion.specs.Scene.{scene_at}
use Rattle.kin_motion.specs.Chains.{cycle_of}
use Rattle.kin_motion.specs.Octants.{candidate_of, octants}
use Rattle.kin_motion.specs.ClosestPairs.{closest_of}
use Rattle.kin_rows.specs.Settings.{point, at}

-- a unit square
abbrev pub square : List (Option Course)
square = point (pos 0) (pos 0) (pos 0) (pos 0) ∷ point (pos 1) (pos 0) (pos 0) (pos 0) ∷ point (pos 1) (pos 1) (pos 0) (pos 0) ∷ point (pos 0) (pos 1) (pos 0) (pos 0) ∷ []

abbrev pub square_candidate : ℕ → ℕ → Option ℕ
square_candidate p w = option_and_then (λ o. candidate_of (scene_at square (at (pos 0))) o p) (slice_get octants w)

-- the hull, the closest pair and some candidates of a unit square
pub record SquareRow : Type 0 where
  pub square_hull : cycle_of (scene_at square (at (pos 0))) ≡ 0 ∷ 1 ∷ 2 ∷ 3 ∷ []
  pub square_closest : closest_of (scene_at square (at (pos 0))) ≡ Some (0, 1)
  pub square_0_0 : square_candidate 0 0 ≡ Some 1
  pub square_0_1 : square_candidate 0 1 ≡ Some 3
  pub square_0_2 : square_candidate 0 2 ≡ None
  pub square_2_3 : square_candidate 2 3 ≡ Some 3
  pub square_2_4 : square_candidate 2 4 ≡ Some 0
  pub square_2_5 : square_candidate 2 5 ≡ Some 1
