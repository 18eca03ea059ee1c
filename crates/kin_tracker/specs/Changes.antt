-- When the points may be changed, and why they are not.
use Rattle.std.specs.Prelude.{◌≡◌, ℕ, ◌<◌, ◌^◌, ℤ, Some}
use Rattle.kin_num.specs.Order.{IsEarlier}
use Rattle.kin_motion.specs.Course.{Course, motion_of}
use Rattle.kin_motion.specs.Plans.{Plan}
use Rattle.kin_motion.specs.Turning.{IsNotWhole, IsOutOfBounds, just_at}
use Rattle.kin_legs.specs.Paths.{plan_of, whole}
use Rattle.kin_legs.specs.Scheduling.{HasLegFrom, IsOver, FollowsTooFast}
use Rattle.kin_tracker.specs.declared.refusal.Refusal.{Refusal}
use Rattle.kin_tracker.specs.declared.refusal.Refusal.TheVariants.{Lost, BadNumber, Taken, Absent, Past, Planned, NotWhole, OutOfBounds, NoMemory}
use Rattle.kin_tracker.specs.Ranges.{IsLegInRange, IsSlowVelocity}
use Rattle.kin_tracker.specs.Trackers.{IsHere, IsLost, IsPresent, IsAbsent}
use Rattle.kin_world.specs.Worlds.{World, CanTurn, CanPlan, world_plans}

-- ---- a number starts with a motion

-- it is below 2^size, and not live
abbrev pub MayInsert : World → ℕ → Type 0
MayInsert w number = IsHere w × (number < 2 ^ w.size) × IsAbsent w number

-- why it doesn't
abbrev pub IsRefusedInsert : World → ℕ → Refusal → Type 0
IsRefusedInsert w number Lost = IsLost w
IsRefusedInsert w number BadNumber = IsHere w × ¬ (number < 2 ^ w.size)
IsRefusedInsert w number Taken = IsHere w × (number < 2 ^ w.size) × IsPresent w number
IsRefusedInsert w number NoMemory = MayInsert w number
IsRefusedInsert w number _ = ⊥

-- ---- a number has no motion any more, or starts anew with another

-- it is live
abbrev pub MayRemove : World → ℕ → Type 0
MayRemove w number = IsHere w × IsPresent w number

-- why it doesn't
abbrev pub IsRefusedRemoval : World → ℕ → Refusal → Type 0
IsRefusedRemoval w number Lost = IsLost w
IsRefusedRemoval w number Absent = IsHere w × IsAbsent w number
IsRefusedRemoval w number NoMemory = MayRemove w number
IsRefusedRemoval w number _ = ⊥

-- ---- a number gets another velocity where it is

-- it can have it now
abbrev pub MayTurn : World → ℕ → ℤ → ℤ → Type 0
MayTurn w number u v = IsHere w × IsSlowVelocity u v × ((motion : Course) × CanTurn number u v w motion)

-- why it doesn't
abbrev pub IsRefusedTurn : World → ℕ → ℤ → ℤ → Refusal → Type 0
IsRefusedTurn w number u v Lost = IsLost w
IsRefusedTurn w number u v BadNumber = IsHere w × ¬ (IsSlowVelocity u v)
IsRefusedTurn w number u v Absent = IsHere w × IsSlowVelocity u v × IsAbsent w number
IsRefusedTurn w number u v NotWhole = IsHere w × IsSlowVelocity u v × ((had : Course) × (motion_of w.motions number ≡ Some had) × IsNotWhole w.moment u v had)
IsRefusedTurn w number u v OutOfBounds =
    IsHere w × IsSlowVelocity u v × ((had : Course) × (motion_of w.motions number ≡ Some had) × IsOutOfBounds w.moment u v had)
IsRefusedTurn w number u v NoMemory = MayTurn w number u v
IsRefusedTurn w number u v _ = ⊥

-- ---- a number is to have another velocity from a whole instant on

-- the plan of a live number
abbrev pub HasPlan : World → ℕ → Plan → Type 0
HasPlan w number plan = plan_of (world_plans w) number ≡ Some plan

-- it can have it then
abbrev pub MayPlan : World → ℕ → ℕ → ℤ → ℤ → Type 0
MayPlan w number at u v = IsHere w × IsLegInRange at u v × ((motion : Course) × CanPlan number at u v w motion)

-- why it isn't to have it
abbrev pub IsRefusedLeg : World → ℕ → ℕ → ℤ → ℤ → Refusal → Type 0
IsRefusedLeg w number at u v Lost = IsLost w
IsRefusedLeg w number at u v BadNumber = IsHere w × ¬ (IsLegInRange at u v)
IsRefusedLeg w number at u v Absent = IsHere w × IsLegInRange at u v × IsAbsent w number
IsRefusedLeg w number at u v Past = IsHere w × IsLegInRange at u v × IsPresent w number × IsOver w.moment at
IsRefusedLeg w number at u v Planned =
    IsHere w × IsLegInRange at u v × ((plan : Plan) × HasPlan w number plan × IsEarlier w.moment (just_at (whole at)) × HasLegFrom plan at)
IsRefusedLeg w number at u v OutOfBounds = IsHere w × IsLegInRange at u v × ((plan : Plan) × HasPlan w number plan × FollowsTooFast w.moment plan at u v)
IsRefusedLeg w number at u v NoMemory = MayPlan w number at u v
IsRefusedLeg w number at u v _ = ⊥
