-- What a new leg asks of the plan that it is added to.
use Rattle.std.specs.Prelude.{◌≡◌, ◌≤◌, ◌<◌, ◌^◌, ℕ, ℤ, List, [], ◌∷◌, Contains}
use Rattle.kin_num.specs.declared.instant.Moment.{Moment}
use Rattle.kin_num.specs.Order.{IsEarlier}
use Rattle.kin_motion.specs.Course.{Course, IsSlow}
use Rattle.kin_motion.specs.Plans.{Leg, Plan}
use Rattle.kin_motion.specs.Turning.{TurnsTo, just_at}
use Rattle.kin_legs.specs.Paths.{whole}

-- the motion after these legs
abbrev pub motion_after : Course → List Leg → Course
motion_after c [] = c
motion_after c (leg ∷ legs) = motion_after leg.motion legs

-- the last motion of a plan
abbrev pub last_motion : Plan → Course
last_motion plan = motion_after plan.first plan.legs

-- a leg from this instant on comes too late: it is now or past
abbrev pub IsOver : Moment → ℕ → Type 0
IsOver now at = ¬ (IsEarlier now (just_at (whole at)))

-- the plan has a leg from this instant or a later one on
abbrev pub HasLegFrom : Plan → ℕ → Type 0
HasLegFrom plan at = (leg : Leg) × Contains plan.legs leg × (at ≤ leg.from)

-- the motion with the velocity (u, v) that has at the instant the place of the plan's last motion
abbrev pub Continues : Plan → ℕ → ℤ → ℤ → Course → Type 0
Continues plan at u v motion = TurnsTo (whole at) u v (last_motion plan) motion

-- the leg is still to come and after all others, and its motion is slow
pub record MayFollow (now : Moment) (plan : Plan) (at : ℕ) (u v : ℤ) (motion : Course) : Type 0 where
  pub ahead : IsEarlier now (just_at (whole at))
  pub after : ¬ (HasLegFrom plan at)
  pub continues : Continues plan at u v motion
  pub slow : IsSlow motion

-- the leg is still to come and after all others, but its motion isn't slow
pub record FollowsTooFast (now : Moment) (plan : Plan) (at : ℕ) (u v : ℤ) : Type 0 where
  pub ahead : IsEarlier now (just_at (whole at))
  pub after : ¬ (HasLegFrom plan at)
  pub motion : Course
  pub continues : Continues plan at u v motion
  pub far : ¬ (IsSlow motion)

-- at a whole instant there always is such a motion, and only one
abbrev pub OneContinues : Type 0
OneContinues = (plan : Plan) (at : ℕ) (u v : ℤ) → at < 2 ^ 31 → (motion : Course) × Continues plan at u v motion × ((other : Course) → Continues plan at u v other → other ≡ motion)
