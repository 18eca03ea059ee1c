-- What comes first of facts that hold at a moment, and of legs.
use Rattle.std.specs.Prelude.{◌≡◌, ℕ, List, Option, Contains}
use Rattle.kin_num.specs.declared.instant.Moment.{Moment}
use Rattle.kin_num.specs.Canonical.{IsCanonical}
use Rattle.kin_num.specs.Order.{IsEarlier}
use Rattle.kin_motion.specs.Live.{Certificate}
use Rattle.kin_motion.specs.Moments.{HoldsAt}
use Rattle.kin_motion.specs.Plans.{Leg, Plan, motions_in_force, plans_scene}
use Rattle.kin_motion.specs.Scene.{Scene, scene_at}
use Rattle.kin_fail.specs.Failures.{NeverFails}
use Rattle.kin_fail.proofs.LeastFailure.{IsLeast}
use Rattle.kin_legs.specs.Paths.{ArePaths, IsLegOf, NoneBeginsBetween, beginning}
use Rattle.kin_check.specs.declared.event.Event.{Event}
use Rattle.kin_check.specs.declared.event.Event.TheVariants.{Failure, Leg as Begins, Nothing}
use Rattle.kin_check.specs.Beginnings.{IsSoonest, all_legs}
use Rattle.kin_check.specs.Least.{IsLeastFailure}

-- all of these facts hold from one moment to another, both included
abbrev pub HoldThrough : (Moment → Scene) → Moment → Moment → List Certificate → Type 0
HoldThrough scene from last cs = (c : Certificate) → Contains cs c → (m : Moment) → IsCanonical m.at → ¬ (IsEarlier m from) → ¬ (IsEarlier last m)
    → HoldsAt scene m c.placed.fact

-- some of these facts fail then, and no leg begins sooner
pub record FailsSooner (plans : List (Option Plan)) (from m : Moment) (cs : List Certificate) : Type 0 where
  pub least : IsLeast (plans_scene plans) from cs m
  pub first : NoneBeginsBetween from m plans

-- a leg begins then, none does sooner, and all of these facts hold up to there
pub record BeginsSooner (plans : List (Option Plan)) (from m : Moment) (cs : List Certificate) : Type 0 where
  pub leg : Leg
  pub of_these : IsLegOf plans leg
  pub begins : m ≡ beginning leg
  pub canonical : IsCanonical m.at
  pub later : IsEarlier from m
  pub first : NoneBeginsBetween from m plans
  pub hold : HoldThrough (plans_scene plans) from m cs

-- none of these facts ever fails, and no leg begins any more
pub record NothingComes (plans : List (Option Plan)) (from : Moment) (cs : List Certificate) : Type 0 where
  pub hold : (c : Certificate) → Contains cs c → NeverFails (plans_scene plans) from c.placed.fact
  pub none_begins : (leg : Leg) → IsLegOf plans leg → ¬ (IsEarlier from (beginning leg))

-- what comes first after a moment
abbrev pub IsFirst : List (Option Plan) → Moment → List Certificate → Event → Type 0
IsFirst plans from cs (Failure m) = FailsSooner plans from m cs
IsFirst plans from cs (Begins m) = BeginsSooner plans from m cs
IsFirst plans from cs Nothing = NothingComes plans from cs

-- it comes by the last moment; or up to there all of these facts hold
abbrev pub IsFirstBy : List (Option Plan) → Moment → Moment → List Certificate → Event → Type 0
IsFirstBy plans from last cs (Failure m) = IsLeast (plans_scene plans) from cs m × ¬ (IsEarlier last m)
IsFirstBy plans from last cs (Begins m) = BeginsSooner plans from m cs × ¬ (IsEarlier last m)
IsFirstBy plans from last cs Nothing = HoldThrough (plans_scene plans) from last cs

-- where one is the first failure of some facts, as the motions of a moment go on, and the other the instant of the next leg, this is what comes first
abbrev pub ComesFirst : Option Moment → Option ℕ → Event → Type 0
ComesFirst fails begins event =
    (plans : List (Option Plan)) (from : Moment) (cs : List Certificate) → ArePaths plans → IsCanonical from.at
    → IsLeastFailure (scene_at (motions_in_force plans from)) from cs fails → IsSoonest from (all_legs plans) begins → IsFirst plans from cs event

-- where the first event is what comes first after a moment, the second is what comes first by the last moment
abbrev pub ComesBy : Moment → Event → Event → Type 0
ComesBy last event by_last =
    (plans : List (Option Plan)) (from : Moment) (cs : List Certificate) → IsFirst plans from cs event → IsFirstBy plans from last cs by_last
