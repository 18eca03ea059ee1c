-- A hull event at an irrational instant.
use Rattle.std.specs.Prelude.{◌≡◌, pos, negsuc, List, [], ◌∷◌, map, Option, true}
use Rattle.kin_algebra.specs.declared.sign.Sign.TheVariants.{Minus, Zero, Plus}
use Rattle.kin_num.specs.declared.instant.Shape.TheVariants.{Ratio, Root}
use Rattle.kin_num.specs.declared.instant.Phase.TheVariants.{At}
use Rattle.kin_num.specs.declared.instant.Moment.{Moment}
use Rattle.kin_motion.specs.declared.form.Form.TheVariants.{Line, Turn}
use Rattle.kin_motion.specs.declared.keep.Keep.TheVariants.{Hull}
use Rattle.kin_motion.specs.Course.{Course}
use Rattle.kin_motion.specs.Scene.{scene_at, fact_at}
use Rattle.kin_motion.specs.Chains.{upper_chain_of, lower_chain_of, cycle_of}
use Rattle.kin_motion.specs.Merges.{merge_forms}
use Rattle.kin_motion.specs.Journal.{Setting, failures_at}
use Rattle.kin_rows.specs.Settings.{point, at, after, setting, failure, count_at}

abbrev pub root_two : Moment
root_two = record { at = Root (pos 1) (pos 0) (negsuc 1) true; phase = At }

-- a turn that is t*t - 2
abbrev pub triangle : List (Option Course)
triangle = point (pos 0) (pos 0) (pos 0) (pos 0) ∷ point (pos 0) (pos 2) (pos 1) (pos 0) ∷ point (pos 1) (pos 0) (pos 0) (pos 1) ∷ []

abbrev pub triangle_kept : Setting
triangle_kept = setting 2 (Hull ∷ []) triangle

-- the chains, the hull, the live facts and the blocks of three points of which the turn is t*t - 2
pub record TriangleRow : Type 0 where
  pub triangle_live : count_at triangle_kept (at (pos 0)) ≡ 6
  pub triangle_0_after : failures_at triangle_kept (at (pos 0)) (after (pos 0)) ≡ failure 0 4 (Line (pos 1) (pos 0) (pos 0) 0 1) Zero Plus ∷ failure 0 5 (Line (pos 1) (pos 0) (pos 0) 0 1) Zero Plus ∷ []
  pub triangle_1 : failures_at triangle_kept (after (pos 0)) (at (pos 1)) ≡ failure 0 2 (Line (pos 1) (pos 0) (pos 0) 1 2) Plus Zero ∷ failure 0 3 (Line (pos 1) (pos 0) (pos 0) 1 2) Plus Zero ∷ []
  pub triangle_1_after : failures_at triangle_kept (at (pos 1)) (after (pos 1)) ≡ failure 0 2 (Line (pos 1) (pos 0) (pos 0) 1 2) Zero Minus ∷ failure 0 3 (Line (pos 1) (pos 0) (pos 0) 1 2) Zero Minus ∷ []
  pub triangle_root : failures_at triangle_kept (after (pos 1)) root_two ≡ failure 0 2 (Turn 0 1 2) Minus Zero ∷ failure 0 3 (Turn 0 1 2) Minus Zero ∷ []
  pub triangle_hull : cycle_of (scene_at triangle root_two) ≡ 0 ∷ 1 ∷ []
  pub triangle_upper_0_after : upper_chain_of (scene_at triangle (after (pos 0))) (0 ∷ 1 ∷ 2 ∷ []) ≡ 0 ∷ 1 ∷ 2 ∷ []
  pub triangle_lower_0_after : lower_chain_of (scene_at triangle (after (pos 0))) (0 ∷ 1 ∷ 2 ∷ []) ≡ 0 ∷ 2 ∷ []
  pub triangle_upper_root : upper_chain_of (scene_at triangle root_two) (0 ∷ 1 ∷ 2 ∷ []) ≡ 0 ∷ 1 ∷ []
  pub triangle_lower_root : lower_chain_of (scene_at triangle root_two) (0 ∷ 1 ∷ 2 ∷ []) ≡ 0 ∷ 1 ∷ []
  pub triangle_merge : map (fact_at (scene_at triangle (after (pos 0)))) (merge_forms (scene_at triangle (after (pos 0))) (0 ∷ 1 ∷ []) (2 ∷ [])) ≡ record { form = Turn 0 1 2; sign = Minus } ∷ record { form = Line (pos 1) (pos 0) (pos 0) 0 2; sign = Plus } ∷ record { form = Line (pos 1) (pos 0) (pos 0) 1 2; sign = Plus } ∷ []
  pub triangle_below : cycle_of (scene_at triangle (record { at = Ratio (pos 707106781) (pos 500000000); phase = At })) ≡ 0 ∷ 2 ∷ 1 ∷ []
