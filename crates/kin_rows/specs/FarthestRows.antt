-- Farthest pairs of a unit square, of points that come together and part again, and of a pair that another one overtakes.
use Rattle.std.specs.Prelude.{◌≡◌, pos, negsuc, List, [], ◌∷◌, Option, Some, None}
use Rattle.kin_motion.specs.declared.keep.Keep.TheVariants.{Hull, Diameter}
use Rattle.kin_motion.specs.Course.{Course}
use Rattle.kin_motion.specs.Farthest.{farthest_of}
use Rattle.kin_motion.specs.Scene.{scene_at}
use Rattle.kin_rows.specs.Settings.{point, at, after, setting, count_at}
use Rattle.kin_rows.specs.Square.{square}
use Rattle.kin_rows.specs.Touching.{touching}
use Rattle.kin_rows.specs.Twins.{twins}

-- three points in a row: the last one goes away, and is as far from the first as the other one at 2
abbrev pub overtaking : List (Option Course)
overtaking = point (pos 0) (pos 0) (pos 0) (pos 0) ∷ point (pos 3) (pos 0) (pos 0) (pos 0) ∷ point (pos 1) (pos 0) (pos 1) (pos 0) ∷ []

-- 1 and 2 are as far from 0, and near to each other
abbrev pub tied : List (Option Course)
tied = point (pos 0) (pos 0) (pos 0) (pos 0) ∷ point (pos 1) (pos 9) (pos 0) (pos 0) ∷ point (negsuc 0) (pos 9) (pos 0) (pos 0) ∷ []

-- the farthest pairs, and the number of facts of a hull and its farthest pair
pub record FarthestRows : Type 0 where
  -- both diagonals are as long, and the one of 0 is the farthest pair
  pub square_farthest : farthest_of (scene_at square (at (pos 0))) ≡ Some (0, 2)
  -- 18 facts are of the hull; one slope of two sides, and two matches of three cells are of the pair
  pub square_facts : count_at (setting 2 (Hull ∷ Diameter ∷ []) square) (at (pos 0)) ≡ 21
  -- 1 and 2 come to 0 at 1, where all are at one place, and part again
  pub touching_farthest_0 : farthest_of (scene_at touching (at (pos 0))) ≡ Some (1, 2)
  pub touching_farthest_1 : farthest_of (scene_at touching (at (pos 1))) ≡ None
  pub touching_farthest_1_after : farthest_of (scene_at touching (after (pos 1))) ≡ Some (1, 2)
  pub touching_farthest_3 : farthest_of (scene_at touching (at (pos 3))) ≡ Some (1, 2)
  pub touching_facts_0 : count_at (setting 2 (Hull ∷ Diameter ∷ []) touching) (at (pos 0)) ≡ 13
  pub touching_facts_1 : count_at (setting 2 (Hull ∷ Diameter ∷ []) touching) (at (pos 1)) ≡ 8
  -- of two pairs that are as far the lesser one is the farthest pair
  pub tied_farthest : farthest_of (scene_at tied (at (pos 0))) ≡ Some (0, 1)
  pub overtaking_farthest_2 : farthest_of (scene_at overtaking (at (pos 2))) ≡ Some (0, 1)
  pub overtaking_farthest_2_after : farthest_of (scene_at overtaking (after (pos 2))) ≡ Some (0, 2)
  -- two points, at one place for ever
  pub twins_farthest : farthest_of (scene_at twins (at (pos 5))) ≡ None
  pub two_farthest : farthest_of (scene_at (point (pos 0) (pos 0) (pos 0) (pos 0) ∷ None ∷ point (pos 0) (pos 1) (pos 0) (pos 0) ∷ []) (at (pos 0))) ≡ Some (0, 2)
  pub alone_farthest : farthest_of (scene_at (point (pos 0) (pos 0) (pos 0) (pos 0) ∷ []) (at (pos 0))) ≡ None
