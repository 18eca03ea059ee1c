-- An extreme point with a tie.
use Rattle.std.specs.Prelude.{◌≡◌, pos, [], ◌∷◌, Some, None}
use Rattle.kin_algebra.specs.declared.sign.Sign.TheVariants.{Minus, Zero, Plus}
use Rattle.kin_motion.specs.declared.form.Form.TheVariants.{Line}
use Rattle.kin_motion.specs.declared.keep.Keep.TheVariants.{Extreme}
use Rattle.kin_motion.specs.Scene.{scene_at}
use Rattle.kin_motion.specs.Extremes.{extreme_of, along_key, point_slots}
use Rattle.kin_motion.specs.Tournaments.{best_of, items_under}
use Rattle.kin_motion.specs.Journal.{Setting, failures_at}
use Rattle.kin_rows.specs.Settings.{at, after, setting, failure}
use Rattle.kin_rows.specs.Orders.{crossing}

abbrev pub crossing_farthest : Setting
crossing_farthest = setting 1 (Extreme (pos 1) (pos 0) ∷ []) crossing

-- the extreme point and the best of a node of two points that meet, and the failures there
pub record ExtremeRow : Type 0 where
  pub crossing_extreme_4 : extreme_of (scene_at crossing (at (pos 4))) (pos 1) (pos 0) ≡ Some 1
  pub crossing_extreme_5 : extreme_of (scene_at crossing (at (pos 5))) (pos 1) (pos 0) ≡ Some 0
  pub crossing_extreme_6 : extreme_of (scene_at crossing (at (pos 6))) (pos 1) (pos 0) ≡ Some 0
  pub crossing_farthest_5 : failures_at crossing_farthest (at (pos 0)) (at (pos 5)) ≡ failure 0 1 (Line (pos 1) (pos 0) (pos 0) 0 1) Plus Zero ∷ []
  pub crossing_farthest_5_after : failures_at crossing_farthest (at (pos 5)) (after (pos 5)) ≡ failure 0 1 (Line (pos 1) (pos 0) (pos 0) 0 1) Zero Minus ∷ []
  -- the best item of the root, and of a root with empty slots
  pub crossing_best_4 : best_of (scene_at crossing (at (pos 4))) (along_key (pos 1) (pos 0)) (items_under 1 1 (point_slots 1 (0 ∷ 1 ∷ []))) ≡ Some 1
  pub crossing_best_5 : best_of (scene_at crossing (at (pos 5))) (along_key (pos 1) (pos 0)) (items_under 1 1 (point_slots 1 (0 ∷ 1 ∷ []))) ≡ Some 0
  pub crossing_best_none : best_of (scene_at crossing (at (pos 5))) (along_key (pos 1) (pos 0)) (items_under 1 1 (None ∷ None ∷ [])) ≡ None
