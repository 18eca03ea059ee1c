-- Hulls of touching, coincident and collinear points.
use Rattle.std.specs.Prelude.{◌≡◌, pos, negsuc, List, [], ◌∷◌, Option}
use Rattle.kin_motion.specs.declared.keep.Keep.TheVariants.{Hull}
use Rattle.kin_motion.specs.Course.{Course}
use Rattle.kin_motion.specs.Scene.{scene_at}
use Rattle.kin_motion.specs.Chains.{cycle_of}
use Rattle.kin_motion.specs.Journal.{Setting}
use Rattle.kin_rows.specs.Settings.{point, at, setting, count_at}

-- a turn that is (t - 1)*(t - 1)
abbrev pub touching : List (Option Course)
touching = point (pos 0) (pos 0) (pos 0) (pos 0) ∷ point (negsuc 0) (pos 0) (pos 1) (pos 0) ∷ point (pos 0) (negsuc 0) (pos 0) (pos 1) ∷ []

-- collinear for ever
abbrev pub collinear : List (Option Course)
collinear = point (pos 0) (pos 0) (pos 0) (pos 0) ∷ point (pos 5) (pos 0) (pos 0) (pos 0) ∷ point (pos 10) (pos 0) (pos 0) (pos 0) ∷ []

abbrev pub collinear_kept : Setting
collinear_kept = setting 2 (Hull ∷ []) collinear

-- the hulls of points whose turn touches 0, and of collinear points
pub record TouchingRows : Type 0 where
  pub touching_0 : cycle_of (scene_at touching (at (pos 0))) ≡ 1 ∷ 2 ∷ 0 ∷ []
  pub touching_1 : cycle_of (scene_at touching (at (pos 1))) ≡ 0 ∷ []
  pub touching_2 : cycle_of (scene_at touching (at (pos 2))) ≡ 0 ∷ 1 ∷ 2 ∷ []
  pub collinear_hull : cycle_of (scene_at collinear (at (pos 0))) ≡ 0 ∷ 2 ∷ []
  pub collinear_live : count_at collinear_kept (at (pos 0)) ≡ 8
