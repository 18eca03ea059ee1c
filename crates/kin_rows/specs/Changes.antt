-- Moved pairs, records of a merge, and plans.
use Rattle.std.specs.Prelude.{◌≡◌, pos, negsuc, List, [], ◌∷◌, Option, Some}
use Rattle.kin_algebra.specs.declared.sign.Sign.TheVariants.{Minus, Plus}
use Rattle.kin_motion.specs.declared.form.Form.TheVariants.{Line, Turn}
use Rattle.kin_motion.specs.Scene.{scene_at}
use Rattle.kin_motion.specs.Orders.{order_of}
use Rattle.kin_rows.specs.Settings.{at, after}
use Rattle.kin_motion.specs.Records.{Record.{Inner, LeftEnd, RightEnd}, records_of, moved_pairs}
use Rattle.kin_motion.specs.Merges.{Half.{A}, breakpoint_list}
use Rattle.kin_motion.specs.Plans.{Plan, plans_scene}
use Rattle.kin_rows.specs.Triangle.{triangle}

-- point 0 turns back at 2, before it meets point 1
abbrev pub turning_back : List (Option Plan)
turning_back =
    Some (record { first = record { x = pos 0; y = pos 0; u = pos 1; v = pos 0 }; legs = record { from = 2; motion = record { x = pos 4; y = pos 0; u = negsuc 0; v = pos 0 } } ∷ [] })
    ∷ Some (record { first = record { x = pos 3; y = pos 0; u = pos 0; v = pos 0 }; legs = [] })
    ∷ []

-- moved pairs, the records of a merge, and the order of a point that turns back
pub record ChangeRows : Type 0 where
  pub moved_three : moved_pairs (0 ∷ 1 ∷ 2 ∷ []) (2 ∷ 1 ∷ 0 ∷ []) ≡ 3
  pub moved_none : moved_pairs (0 ∷ 1 ∷ 2 ∷ []) (0 ∷ 3 ∷ 2 ∷ []) ≡ 0
  -- the records of the left half 0 1 and the right half 2, just after 0
  pub triangle_records : records_of (scene_at triangle (after (pos 0))) (0 ∷ 1 ∷ []) (2 ∷ []) (breakpoint_list (scene_at triangle (after (pos 0))) (0 ∷ 1 ∷ []) (2 ∷ []))
      ≡ LeftEnd 0 2 (record { form = Line (pos 1) (pos 0) (pos 0) 0 2; sign = Plus } ∷ [])
      ∷ RightEnd 1 2 (record { form = Line (pos 1) (pos 0) (pos 0) 1 2; sign = Plus } ∷ [])
      ∷ Inner (record { half = A; left = 0; right = 1 }) (record { form = Turn 0 1 2; sign = Minus } ∷ [])
      ∷ []
  pub turning_2 : order_of (plans_scene turning_back (at (pos 2))) (pos 1) (pos 0) ≡ 0 ∷ 1 ∷ []
  pub turning_4 : order_of (plans_scene turning_back (at (pos 4))) (pos 1) (pos 0) ≡ 0 ∷ 1 ∷ []
  pub turning_0 : order_of (plans_scene turning_back (at (pos 0))) (pos 0) (negsuc 0) ≡ 0 ∷ 1 ∷ []
