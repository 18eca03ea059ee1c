-- The table of what changes the points: how a line is written, in which ranges its numbers are, why it is refused, and which plan the point has then.
use Rattle.std.specs.Prelude.{◌≡◌, ◌⊎◌, ℕ, ◌<◌, ◌≤◌, ◌^◌, ℤ, unsigned_abs, List, Option, Some, None, is_some, IsTrue, IsFalse}
use Rattle.kin_num.specs.declared.instant.Moment.{Moment}
use Rattle.kin_num.specs.Order.{IsEarlier}
use Rattle.kin_motion.specs.Course.{Course, IsSlow, motion_limit}
use Rattle.kin_motion.specs.Plans.{Plan, motion_in_force}
use Rattle.kin_motion.specs.Turning.{TurnsTo, IsNotWhole, IsOutOfBounds, just_at}
use Rattle.kin_legs.specs.Joined.{with_leg}
use Rattle.kin_legs.specs.Paths.{lasting, whole}
use Rattle.kin_legs.specs.Scheduling.{IsOver, HasLegFrom, MayFollow, FollowsTooFast}
use Rattle.kin_script.specs.declared.command.Command.{Command}
use Rattle.kin_script.specs.declared.command.Command.TheVariants.{Insert, Remove, Replace, Turn, Leg}
use Rattle.kin_script.specs.declared.refusal.Refusal.{Refusal}
use Rattle.kin_script.specs.declared.refusal.Refusal.TheVariants.{Taken, Absent, Past, Planned, NotWhole, OutOfBounds}
use Rattle.kin_script.specs.Lines.{Word}
use Rattle.kin_script.specs.Numbers.{◌>>=◌}
use Rattle.kin_script.specs.Words.{number_at, instant_at, motion_at, velocity_at, last}

-- a number starts with a motion; it has none any more; it starts anew with another motion; it gets another velocity where it is; or it is to get another velocity
-- at a whole instant
pub data PointChange : Type 0 where
  enters : Course → PointChange
  leaves : PointChange
  restarts : Course → PointChange
  turns : ℤ → ℤ → PointChange
  schedules : ℕ → ℤ → ℤ → PointChange

-- ---- how it is written

-- insert N X Y U V
unfoldable pub insert_of : ℕ → List Word → Option Command
insert_of size ws = do
  number ← number_at size ws
  motion ← motion_at number.1
  last (Insert number.0 motion.0) motion.1

-- remove N
unfoldable pub remove_of : ℕ → List Word → Option Command
remove_of size ws = do
  number ← number_at size ws
  last (Remove number.0) number.1

-- replace N X Y U V
unfoldable pub replace_of : ℕ → List Word → Option Command
replace_of size ws = do
  number ← number_at size ws
  motion ← motion_at number.1
  last (Replace number.0 motion.0) motion.1

-- turn N U V
unfoldable pub turn_of : ℕ → List Word → Option Command
turn_of size ws = do
  number ← number_at size ws
  velocity ← velocity_at number.1
  last (Turn number.0 velocity.0.0 velocity.0.1) velocity.1

-- leg N T U V
unfoldable pub leg_of : ℕ → List Word → Option Command
leg_of size ws = do
  number ← number_at size ws
  at ← instant_at number.1
  velocity ← velocity_at at.1
  last (Leg number.0 at.0 velocity.0.0 velocity.0.1) velocity.1

-- ---- its numbers

-- a velocity that a motion may have
pub record IsSlowVelocity (u v : ℤ) : Type 0 where
  pub u_small : unsigned_abs u ≤ motion_limit
  pub v_small : unsigned_abs v ≤ motion_limit

abbrev pub IsChangeInRange : PointChange → Type 0
IsChangeInRange (enters motion) = IsSlow motion
IsChangeInRange leaves = Unit {0}
IsChangeInRange (restarts motion) = IsSlow motion
IsChangeInRange (turns u v) = IsSlowVelocity u v
IsChangeInRange (schedules at u v) = (at < 2 ^ 31) × IsSlowVelocity u v

-- ---- what comes of it, at a moment, for a number with this plan or with none

-- a point with this motion can't get the velocity: its new motion would not be whole, or out of bounds
abbrev pub IsRefusedTurn : Moment → ℤ → ℤ → Course → Refusal → Type 0
IsRefusedTurn m u v old r = ((r ≡ NotWhole) × IsNotWhole m u v old) ⊎ ((r ≡ OutOfBounds) × IsOutOfBounds m u v old)

-- a point with this plan can't get the leg: it would begin now or before, or the plan has one from then on, or its motion would be out of bounds
abbrev pub IsRefusedLeg : Moment → ℕ → ℤ → ℤ → Plan → Refusal → Type 0
IsRefusedLeg m at u v old r = ((r ≡ Past) × IsOver m at)
    ⊎ (((r ≡ Planned) × IsEarlier m (just_at (whole at)) × HasLegFrom old at)
    ⊎ ((r ≡ OutOfBounds) × FollowsTooFast m old at u v))

-- why it is refused: a live number starts, one that isn't live leaves, starts anew, turns or gets a leg, or a live one can't turn so, or can't get the leg
abbrev pub IsRefusedChange : Moment → Option Plan → PointChange → Refusal → Type 0
IsRefusedChange m now (enters motion) r = (r ≡ Taken) × IsTrue (is_some now)
IsRefusedChange m now leaves r = (r ≡ Absent) × IsFalse (is_some now)
IsRefusedChange m now (restarts motion) r = (r ≡ Absent) × IsFalse (is_some now)
IsRefusedChange m now (turns u v) r = ((r ≡ Absent) × IsFalse (is_some now)) ⊎ ((old : Plan) × (now ≡ Some old) × IsRefusedTurn m u v (motion_in_force m old) r)
IsRefusedChange m now (schedules at u v) r = ((r ≡ Absent) × IsFalse (is_some now)) ⊎ ((old : Plan) × (now ≡ Some old) × IsRefusedLeg m at u v old r)

-- a live number has the velocity for ever then, and is at the same place
pub record IsTurned (m : Moment) (u v : ℤ) (now next : Option Plan) : Type 0 where
  pub old : Plan
  pub new : Course
  pub was : now ≡ Some old
  pub same_place : TurnsTo m.at u v (motion_in_force m old) new
  pub is : next ≡ Some (lasting new)

-- a live number has one leg more then, with the velocity from the instant on
pub record IsScheduled (m : Moment) (at : ℕ) (u v : ℤ) (now next : Option Plan) : Type 0 where
  pub old : Plan
  pub new : Course
  pub was : now ≡ Some old
  pub follows : MayFollow m old at u v new
  pub is : next ≡ Some (with_leg old (record { from = at; motion = new }))

-- which plan it has then, or none
abbrev pub ChangesTo : Moment → Option Plan → PointChange → Option Plan → Type 0
ChangesTo m now (enters motion) next = next ≡ Some (lasting motion)
ChangesTo m now leaves next = next ≡ None
ChangesTo m now (restarts motion) next = next ≡ Some (lasting motion)
ChangesTo m now (turns u v) next = IsTurned m u v now next
ChangesTo m now (schedules at u v) next = IsScheduled m at u v now next
