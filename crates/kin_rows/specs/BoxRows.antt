-- Overlaps and facts of boxes: boxes that meet and part, boxes of no width and no height, and corners that touch.
use Rattle.std.specs.Prelude.{◌≡◌, pos, negsuc, List, [], ◌∷◌, Option, None}
use Rattle.kin_algebra.specs.declared.sign.Sign.TheVariants.{Minus, Zero, Plus}
use Rattle.kin_motion.specs.declared.form.Form.TheVariants.{Line}
use Rattle.kin_motion.specs.declared.keep.Keep.TheVariants.{Boxes}
use Rattle.kin_motion.specs.Course.{Course}
use Rattle.kin_motion.specs.Scene.{Scene, scene_at}
use Rattle.kin_motion.specs.BoxFacts.{boxes_facts}
use Rattle.kin_motion.specs.Journal.{Setting, failures_at}
use Rattle.kin_motion.specs.Overlaps.{overlaps_of}
use Rattle.kin_rows.specs.Settings.{point, at, after, setting, failure, fact, count_at}

-- the box of 0 comes to that of 1, goes through it and leaves it
abbrev pub meeting : List (Option Course)
meeting = point (pos 0) (pos 0) (pos 1) (pos 0) ∷ point (pos 5) (pos 0) (pos 0) (pos 0) ∷ []

abbrev pub meeting_kept : Setting
meeting_kept = setting 1 (Boxes (pos 2) (pos 2) ∷ []) meeting

-- two points that meet; then 0 leaves
abbrev pub joining : List (Option Course)
joining = point (pos 0) (pos 0) (pos 1) (pos 0) ∷ point (pos 1) (pos 0) (pos 0) (pos 0) ∷ []

abbrev pub left_over : List (Option Course)
left_over = None ∷ point (pos 1) (pos 0) (pos 0) (pos 0) ∷ []

-- a box is at rest, and another one passes its corner at 1
abbrev pub cornering : List (Option Course)
cornering = point (pos 0) (pos 0) (pos 0) (pos 0) ∷ point (pos 0) (pos 2) (pos 1) (negsuc 0) ∷ []

-- boxes of width 2 and height 1: 0 and 1 touch at a corner, 1 and 2 at a side
abbrev pub stairs : List (Option Course)
stairs = point (pos 0) (pos 0) (pos 0) (pos 0) ∷ point (pos 2) (pos 1) (pos 0) (pos 0) ∷ point (pos 2) (pos 2) (pos 0) (pos 0) ∷ []

-- the pairs that overlap and the facts of both axes, x first
pub record BoxRows : Type 0 where
  -- both boxes are 2 wide: they touch at 3 and at 7
  pub meeting_0 : overlaps_of (scene_at meeting (at (pos 0))) (pos 2) (pos 2) ≡ []
  pub meeting_3 : overlaps_of (scene_at meeting (at (pos 3))) (pos 2) (pos 2) ≡ (0, 1) ∷ []
  pub meeting_7 : overlaps_of (scene_at meeting (at (pos 7))) (pos 2) (pos 2) ≡ (0, 1) ∷ []
  pub meeting_7_after : overlaps_of (scene_at meeting (after (pos 7))) (pos 2) (pos 2) ≡ []
  pub meeting_8 : overlaps_of (scene_at meeting (at (pos 8))) (pos 2) (pos 2) ≡ []
  -- along x the ends of 0 come before those of 1; along y all are tied
  pub meeting_facts_0 : boxes_facts (scene_at meeting (at (pos 0))) (pos 2) (pos 2)
      ≡ fact 1 (Line (pos 1) (pos 0) (pos 2) 0 0) Plus
      ∷ fact 2 (Line (pos 1) (pos 0) (negsuc 1) 0 1) Plus
      ∷ fact 1 (Line (pos 1) (pos 0) (pos 2) 1 1) Plus
      ∷ fact 4 (Line (pos 0) (pos 1) (pos 0) 0 1) Zero
      ∷ fact 5 (Line (pos 0) (pos 1) (pos 2) 1 0) Plus
      ∷ fact 7 (Line (pos 0) (pos 1) (pos 0) 0 1) Zero
      ∷ []
  -- the low end of 1 comes before the high end of 0 where both are at one place
  pub meeting_facts_3 : boxes_facts (scene_at meeting (at (pos 3))) (pos 2) (pos 2)
      ≡ fact 0 (Line (pos 1) (pos 0) (pos 0) 0 1) Plus
      ∷ fact 1 (Line (pos 1) (pos 0) (pos 2) 1 0) Zero
      ∷ fact 3 (Line (pos 1) (pos 0) (pos 0) 0 1) Plus
      ∷ fact 4 (Line (pos 0) (pos 1) (pos 0) 0 1) Zero
      ∷ fact 5 (Line (pos 0) (pos 1) (pos 2) 1 0) Plus
      ∷ fact 7 (Line (pos 0) (pos 1) (pos 0) 0 1) Zero
      ∷ []
  pub meeting_failures_3 : failures_at meeting_kept (at (pos 0)) (at (pos 3)) ≡ failure 0 2 (Line (pos 1) (pos 0) (negsuc 1) 0 1) Plus Zero ∷ []
  pub meeting_count : count_at meeting_kept (at (pos 0)) ≡ 6
  -- boxes without width and height overlap where their points meet
  pub joining_0 : overlaps_of (scene_at joining (at (pos 0))) (pos 0) (pos 0) ≡ []
  pub joining_1 : overlaps_of (scene_at joining (at (pos 1))) (pos 0) (pos 0) ≡ (0, 1) ∷ []
  pub joining_facts_1 : boxes_facts (scene_at joining (at (pos 1))) (pos 0) (pos 0)
      ≡ fact 0 (Line (pos 1) (pos 0) (pos 0) 0 1) Zero
      ∷ fact 1 (Line (pos 1) (pos 0) (pos 0) 1 0) Zero
      ∷ fact 3 (Line (pos 1) (pos 0) (pos 0) 0 1) Zero
      ∷ fact 4 (Line (pos 0) (pos 1) (pos 0) 0 1) Zero
      ∷ fact 5 (Line (pos 0) (pos 1) (pos 0) 1 0) Zero
      ∷ fact 7 (Line (pos 0) (pos 1) (pos 0) 0 1) Zero
      ∷ []
  pub left_over_1 : overlaps_of (scene_at left_over (at (pos 1))) (pos 0) (pos 0) ≡ []
  pub left_over_facts : boxes_facts (scene_at left_over (at (pos 1))) (pos 0) (pos 0)
      ≡ fact 1 (Line (pos 1) (pos 0) (pos 0) 1 1) Zero ∷ fact 5 (Line (pos 0) (pos 1) (pos 0) 1 1) Zero ∷ []
  -- corners touch, at one instant only
  pub cornering_0 : overlaps_of (scene_at cornering (at (pos 0))) (pos 1) (pos 1) ≡ []
  pub cornering_1 : overlaps_of (scene_at cornering (at (pos 1))) (pos 1) (pos 1) ≡ (0, 1) ∷ []
  pub cornering_1_after : overlaps_of (scene_at cornering (after (pos 1))) (pos 1) (pos 1) ≡ []
  pub stairs_overlaps : overlaps_of (scene_at stairs (at (pos 0))) (pos 2) (pos 1) ≡ (0, 1) ∷ (1, 2) ∷ []
  pub stairs_turned : overlaps_of (scene_at stairs (at (pos 0))) (pos 1) (pos 2) ≡ (1, 2) ∷ []
