-- What structures may ask between two scenes of small sets: so many signs, and no more.
use Rattle.std.specs.Prelude.{ℕ, ◌≤◌, pos, List, [], ◌∷◌, Option, None, ◌↔◌}
use Rattle.kin_motion.specs.declared.keep.Keep.{Keep}
use Rattle.kin_motion.specs.declared.keep.Keep.TheVariants.{Order, Extreme}
use Rattle.kin_motion.specs.Course.{Course}
use Rattle.kin_motion.specs.Scene.{Scene, scene_at}
use Rattle.kin_motion.specs.Spending.{MayAsk}
use Rattle.kin_rows.specs.Orders.{crossing, three}
use Rattle.kin_rows.specs.Settings.{point, at}

-- one of the two points of a crossing
abbrev pub alone : List (Option Course)
alone = point (pos 0) (pos 0) (pos 1) (pos 0) ∷ None ∷ []

-- the structure may ask so many signs between the two scenes, and no more
abbrev pub AsksAtMost : ℕ → Keep → Scene → Scene → ℕ → Type 0
AsksAtMost size keep v w most = (asked : ℕ) → MayAsk size keep v w asked ↔ (asked ≤ most)

-- the greatest numbers of an order and of an extreme point
pub record AskingRows : Type 0 where
  -- 8 for each of two facts dropped, two born and three pairs that have changed places
  pub three_order : AsksAtMost 2 (Order (pos 1) (pos 0)) (scene_at three (at (pos 4))) (scene_at three (at (pos 6))) 56
  -- nothing has changed
  pub still_order : AsksAtMost 2 (Order (pos 1) (pos 0)) (scene_at three (at (pos 3))) (scene_at three (at (pos 4))) 0
  -- a number enters beside another: 8 for the fact that is born, and two halvings
  pub entered_order : AsksAtMost 1 (Order (pos 1) (pos 0)) (scene_at alone (at (pos 4))) (scene_at crossing (at (pos 4))) 10
  -- two levels for each of two failed facts
  pub three_extreme : AsksAtMost 2 (Extreme (pos 1) (pos 0)) (scene_at three (at (pos 4))) (scene_at three (at (pos 6))) 4
  -- one level for the number that enters
  pub entered_extreme : AsksAtMost 1 (Extreme (pos 1) (pos 0)) (scene_at alone (at (pos 4))) (scene_at crossing (at (pos 4))) 1
  pub still_extreme : AsksAtMost 2 (Extreme (pos 1) (pos 0)) (scene_at three (at (pos 3))) (scene_at three (at (pos 4))) 0
