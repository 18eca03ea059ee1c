-- The plan of a live number, and its number.
use Rattle.std.proofs.Common.{◌≡◌, ap, ◌∙◌, ◌<◌, ◌^◌, ℕ, zero, suc, true, List, [], ◌∷◌, Option, Some, subst, length, arith}
use Rattle.std.specs.Prelude.{option_map}
use Rattle.kin_motion.specs.Course.{Course, is_live, motion_of}
use Rattle.kin_motion.specs.Plans.{Plan}
use Rattle.kin_legs.specs.Joined.{plan_with}
use Rattle.kin_legs.specs.Paths.{plan_of}
use Rattle.kin_legs.proofs.JoinedLaws.{planned_of}
use Rattle.kin_world.specs.Worlds.{IsWhole, World, world_plans}

-- ---- the plan of a live number
abbrev pub plan_now : World → ℕ → Course → Plan
plan_now w n c = plan_with w.legs n c

pub plan_there : (w : World) (n : ℕ) (c : Course) → motion_of w.motions n ≡ Some c → plan_of (world_plans w) n ≡ Some (plan_now w n c)
plan_there w n c had = planned_of w.motions w.legs n ∙ ap (option_map (plan_with w.legs n)) had

-- ---- a live number has room
within : (ms : List (Option Course)) (n : ℕ) → is_live ms n ≡ true → n < length ms
within [] n live = absurd cc
within (m ∷ ms) zero live = omega arith
within (m ∷ ms) (suc n) live = let h = within ms n live in omega (arith, h)

pub has_room : (w : World) (n : ℕ) → IsWhole w → is_live w.motions n ≡ true → n < 2 ^ w.size
has_room w n whole live = subst (λ k. n < k) whole.room (within w.motions n live)
