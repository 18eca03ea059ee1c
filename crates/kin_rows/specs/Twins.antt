-- One motion twice.
use Rattle.std.specs.Prelude.{◌≡◌, pos, List, [], ◌∷◌, Option, Some}
use Rattle.kin_motion.specs.declared.keep.Keep.TheVariants.{Hull, Closest}
use Rattle.kin_motion.specs.Course.{Course}
use Rattle.kin_motion.specs.Scene.{scene_at}
use Rattle.kin_motion.specs.Chains.{cycle_of}
use Rattle.kin_motion.specs.ClosestPairs.{closest_of}
use Rattle.kin_motion.specs.Journal.{Setting}
use Rattle.kin_rows.specs.Settings.{point, at, setting, count_at}

-- one motion twice
abbrev pub twins : List (Option Course)
twins = point (pos 3) (pos 4) (pos 1) (pos 1) ∷ point (pos 3) (pos 4) (pos 1) (pos 1) ∷ []

abbrev pub twins_kept : Setting
twins_kept = setting 1 (Hull ∷ Closest ∷ []) twins

-- the hull, the closest pair and the live facts of one motion twice
pub record TwinsRow : Type 0 where
  pub twins_hull : cycle_of (scene_at twins (at (pos 0))) ≡ 0 ∷ []
  pub twins_closest : closest_of (scene_at twins (at (pos 0))) ≡ Some (0, 1)
  pub twins_live : count_at twins_kept (at (pos 0)) ≡ 13
