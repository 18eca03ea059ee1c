-- Orders of small sets, and their failures.
use Rattle.std.specs.Prelude.{◌≡◌, pos, negsuc, List, [], ◌∷◌, Option}
use Rattle.kin_algebra.specs.declared.sign.Sign.TheVariants.{Minus, Zero, Plus}
use Rattle.kin_motion.specs.declared.form.Form.TheVariants.{Line}
use Rattle.kin_motion.specs.declared.keep.Keep.TheVariants.{Order}
use Rattle.kin_motion.specs.Course.{Course}
use Rattle.kin_motion.specs.Scene.{scene_at}
use Rattle.kin_motion.specs.Orders.{order_of}
use Rattle.kin_motion.specs.Journal.{Setting, failures_at}
use Rattle.kin_rows.specs.Settings.{point, at, after, setting, failure}

-- a crossing with a tie
abbrev pub crossing : List (Option Course)
crossing = point (pos 0) (pos 0) (pos 1) (pos 0) ∷ point (pos 10) (pos 0) (negsuc 0) (pos 0) ∷ []

abbrev pub crossing_kept : Setting
crossing_kept = setting 1 (Order (pos 1) (pos 0) ∷ []) crossing

-- three at once
abbrev pub three : List (Option Course)
three = point (pos 0) (pos 0) (pos 1) (pos 0) ∷ point (pos 5) (pos 0) (pos 0) (pos 0) ∷ point (pos 10) (pos 0) (negsuc 0) (pos 0) ∷ []

abbrev pub three_kept : Setting
three_kept = setting 2 (Order (pos 1) (pos 0) ∷ []) three

-- the orders of two and of three points that meet, and the failures there
pub record OrderRows : Type 0 where
  pub crossing_order_4 : order_of (scene_at crossing (at (pos 4))) (pos 1) (pos 0) ≡ 0 ∷ 1 ∷ []
  pub crossing_order_5 : order_of (scene_at crossing (at (pos 5))) (pos 1) (pos 0) ≡ 0 ∷ 1 ∷ []
  pub crossing_order_6 : order_of (scene_at crossing (at (pos 6))) (pos 1) (pos 0) ≡ 1 ∷ 0 ∷ []
  pub crossing_failures_5 : failures_at crossing_kept (at (pos 0)) (at (pos 5)) ≡ failure 0 0 (Line (pos 1) (pos 0) (pos 0) 0 1) Plus Zero ∷ []
  pub crossing_failures_5_after : failures_at crossing_kept (at (pos 5)) (after (pos 5)) ≡ failure 0 0 (Line (pos 1) (pos 0) (pos 0) 0 1) Zero Minus ∷ []
  pub three_order_5 : order_of (scene_at three (at (pos 5))) (pos 1) (pos 0) ≡ 0 ∷ 1 ∷ 2 ∷ []
  pub three_order_6 : order_of (scene_at three (at (pos 6))) (pos 1) (pos 0) ≡ 2 ∷ 1 ∷ 0 ∷ []
  pub three_failures_5 : failures_at three_kept (at (pos 0)) (at (pos 5)) ≡ failure 0 0 (Line (pos 1) (pos 0) (pos 0) 0 1) Plus Zero ∷ failure 0 0 (Line (pos 1) (pos 0) (pos 0) 1 2) Plus Zero ∷ []
  pub three_failures_5_after : failures_at three_kept (at (pos 5)) (after (pos 5)) ≡ failure 0 0 (Line (pos 1) (pos 0) (pos 0) 0 1) Zero Minus ∷ failure 0 0 (Line (pos 1) (pos 0) (pos 0) 1 2) Zero Minus ∷ []
