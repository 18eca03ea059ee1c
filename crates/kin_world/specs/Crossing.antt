-- Legs that begin as time goes on: a world on its way. No public clause of the world cites this module.
use Rattle.std.specs.Prelude.{◌≡◌, ◌⊎◌, ◌↔◌, ℕ, ◌+◌, ◌-◌, ◌*◌, ◌≤◌, ◌^◌, min, true, List, ◌++◌, Option, Some, None, option_map, unwrap_or, length, sum_by, Contains, IsTrue}
use Rattle.kin_num.specs.declared.instant.Moment.{Moment}
use Rattle.kin_num.specs.Canonical.{IsCanonical}
use Rattle.kin_num.specs.Order.{IsEarlier}
use Rattle.kin_motion.specs.Course.{Course}
use Rattle.kin_motion.specs.Live.{Certificate}
use Rattle.kin_motion.specs.Plans.{Plan, is_begun, plans_scene}
use Rattle.kin_legs.specs.declared.leg.Leg.{Leg}
use Rattle.kin_legs.specs.Joined.{AreAhead, AreFollowed, begins_at, piece_of}
use Rattle.kin_legs.specs.Paths.{plans_left}
use Rattle.kin_legs.specs.Planning.{Planning}
use Rattle.kin_legs.specs.Scheduling.{HasLegFrom, last_motion}
use Rattle.kin_legs.specs.Shown.{IsQuiet}
use Rattle.kin_cert.specs.Cost.{IsEnough}
use Rattle.kin_cert.specs.Told.{certificates_of}
use Rattle.kin_world.specs.declared.upkeep.Upkeep.{Upkeep}
use Rattle.kin_world.specs.Upkeep.{Stage, stage_of, meaning, sight, IsSound, IsDueWithin}
use Rattle.kin_world.specs.Worlds.{World, world_plans, world_setting, facts_as_begins}

-- what a world is made of, with its legs, and the count of steps
pub record Flight : Type 0 where
  pub stage : Stage
  pub plan : Planning
  pub steps : ℕ

abbrev pub flight_of : Upkeep → Planning → ℕ → Flight
flight_of u plan steps = record { stage = stage_of u; plan = plan; steps = steps }

-- the world that it means
abbrev pub seen : Flight → World
seen f = meaning f.stage f.plan.legs true

-- between two calls: the world is sound, its points follow paths, and all legs are still to come
pub record IsAtEase (s : Stage) (plan : Planning) : Type 0 where
  pub sound : IsSound s
  pub size : plan.size ≡ s.size
  pub followed : AreFollowed s.motions plan.legs
  pub ahead : AreAhead s.moment plan.legs

-- the plan's last motion and its latest leg are those of the number's last leg, or its motion now and none
pub record IsKnownBy (motion : Course) (last : Option Leg) (plan : Plan) : Type 0 where
  pub motion_is : last_motion plan ≡ unwrap_or (option_map (λ (l : Leg). l.m) last) motion
  pub from : (at : ℕ) → HasLegFrom plan at ↔ ((l : Leg) × (last ≡ Some l) × (at ≤ l.at))

-- each leg begins now or later
abbrev pub NoneIsPast : Moment → List Leg → Type 0
NoneIsPast now legs = (l : Leg) → Contains legs l → ¬ (IsEarlier (begins_at l) now)

-- the world is sound, its points follow paths of which no leg is past, and what is seen now is what the plans show
pub record IsReady (f : Flight) : Type 0 where
  pub sound : IsSound f.stage
  pub size : f.plan.size ≡ f.stage.size
  pub followed : AreFollowed f.stage.motions f.plan.legs
  pub none_past : NoneIsPast f.stage.moment f.plan.legs
  pub shown : plans_scene (world_plans (seen f)) f.stage.moment ≡ sight f.stage

-- not after the limit and no leg begins before it; and it is the limit, or a leg begins there
pub record IsNextStop (limit : Moment) (legs : List Leg) (stop : Moment) : Type 0 where
  pub canonical : IsCanonical stop.at
  pub within : ¬ (IsEarlier limit stop)
  pub none_before : NoneIsPast stop legs
  pub is : (stop ≡ limit) ⊎ ((l : Leg) × Contains legs l × (stop ≡ begins_at l))

-- some legs have begun, nothing has failed since the start, and no more is done than for the legs and `more` steps
pub record HasCrossed (more : ℕ) (start now : Flight) : Type 0 where
  pub began : IsReady start
  pub ready : IsReady now
  pub frame : now.stage ≡ record start.stage { table = now.stage.table; motions = now.stage.motions; moment = now.stage.moment }
  pub left : plans_left now.stage.moment (world_plans (seen start)) ≡ plans_left now.stage.moment (world_plans (seen now))
  pub quiet : IsQuiet (world_setting (seen start)) start.stage.moment now.stage.moment
  pub stay : (c : Certificate) → Contains (certificates_of now.stage.table.live) c ↔ Contains (certificates_of start.stage.table.live) c
  pub count : length now.stage.table.live ≡ length start.stage.table.live
  pub begun : List Leg
  pub split : start.plan.legs ≡ begun ++ now.plan.legs
  pub begin : (l : Leg) → Contains begun l → IsTrue (is_begun (piece_of l) now.stage.moment)
  pub made : now.stage.table.made ≡ min (start.stage.table.made + sum_by (facts_as_begins (seen start)) begun) (2 ^ 64 - 1)
  pub paid : (r : ℕ) → IsEnough (length start.stage.table.live) r → now.steps ≤ start.steps + (sum_by (λ l. facts_as_begins (seen start) l * (2 * r + 1)) begun + more)

-- two steps for each leg that has begun since the start
abbrev pub two_a_leg : Flight → Flight → ℕ
two_a_leg start now = 2 * (length start.plan.legs - length now.plan.legs)

-- where the crossing ends: at the limit, or where a fact fails before another leg begins
abbrev pub EndsAt : Moment → Option Moment → Flight → Type 0
EndsAt limit None f = f.stage.moment ≡ limit
EndsAt limit (Some due) f = IsDueWithin limit f.stage.table.live due × NoneIsPast due f.plan.legs

-- all legs up to there have begun
pub record HasCrossedTo (limit : Moment) (due : Option Moment) (start now : Flight) : Type 0 where
  pub crossed : HasCrossed (two_a_leg start now + 2) start now
  pub ahead : AreAhead now.stage.moment now.plan.legs
  pub ends : EndsAt limit due now
