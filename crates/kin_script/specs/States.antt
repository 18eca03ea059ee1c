-- What there is between two commands.
use Rattle.std.specs.Prelude.{ℕ, ◌^◌, pos, Bool, List, Option, None, replicate}
use Rattle.kin_num.specs.declared.instant.Shape.TheVariants.{Ratio}
use Rattle.kin_num.specs.declared.instant.Moment.{Moment}
use Rattle.kin_motion.specs.declared.keep.Keep.{Keep}
use Rattle.kin_motion.specs.Plans.{Plan, plans_scene}
use Rattle.kin_motion.specs.Scene.{Scene}
use Rattle.kin_motion.specs.Journal.{Setting}
use Rattle.kin_motion.specs.Turning.{just_at}
use Rattle.kin_legs.specs.Nexts.{View}
use Rattle.kin_legs.specs.Planned.{planned}

-- what is kept, and how far the replay of a script is
pub record State : Type 0 where
  pub size : ℕ
  pub keeps : List Keep
  pub journal : Bool
  pub plans : List (Option Plan)
  pub moment : Moment

-- no points yet, at the instant 0
abbrev pub start : ℕ → List Keep → Bool → State
start size keeps journal = record {
  size = size;
  keeps = keeps;
  journal = journal;
  plans = replicate (2 ^ size) None;
  moment = just_at (Ratio (pos 0) (pos 1));
}

-- what is seen now
abbrev pub state_scene : State → Scene
state_scene s = plans_scene s.plans s.moment

-- what is kept, and what is seen at each moment as the points follow their plans
abbrev pub state_setting : State → Setting
state_setting s = planned s.plans s.size s.keeps

-- the points with their plans and what is kept, seen from now
abbrev pub state_view : State → View
state_view s = record { plans = s.plans; size = s.size; keeps = s.keeps; now = s.moment }
