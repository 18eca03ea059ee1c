-- Paths: plans whose legs rise, and each of which begins where the motion before it is.
use Rattle.std.specs.Prelude.{◌≡◌, ◌<◌, ◌^◌, ◌↔◌, ℕ, pos, Bool, not, nat_lt, List, [], ◌∷◌, filter, map, Option, Some, None, option_map, slice_index_or, Contains, IsTrue}
use Rattle.std.specs.List.{All}
use Rattle.kin_num.specs.declared.instant.Moment.{Moment}
use Rattle.kin_num.specs.declared.instant.Shape.{Shape}
use Rattle.kin_num.specs.declared.instant.Shape.TheVariants.{Ratio}
use Rattle.kin_num.specs.Canonical.{IsCanonical}
use Rattle.kin_num.specs.Order.{IsEarlier}
use Rattle.kin_motion.specs.Course.{Course, IsSlow}
use Rattle.kin_motion.specs.Numbers.{IsChain}
use Rattle.kin_motion.specs.Plans.{Leg, Plan, is_begun, motion_in_force, motions_in_force, plans_scene}
use Rattle.kin_motion.specs.Scene.{scene_at}
use Rattle.kin_motion.specs.Turning.{TurnsTo, just_at}

-- a whole number as an instant
abbrev pub whole : ℕ → Shape
whole n = Ratio (pos n) (pos 1)

-- the moment from which on the leg is in force
abbrev pub beginning : Leg → Moment
beginning leg = just_at (whole leg.from)

-- it begins sooner
abbrev pub is_sooner : Leg → Leg → Bool
is_sooner a b = nat_lt a.from b.from

-- the leg begins where the motion is at that instant
abbrev pub LeadsInto : Course → Leg → Type 0
LeadsInto before leg = TurnsTo (whole leg.from) leg.motion.u leg.motion.v before leg.motion

-- each leg begins where the motion before it is
abbrev pub IsUnbroken : Course → List Leg → Type 0
IsUnbroken c [] = Unit {0}
IsUnbroken c (leg ∷ legs) = LeadsInto c leg × IsUnbroken leg.motion legs

-- it begins below 2^31, and its motion is slow
pub record IsFair (leg : Leg) : Type 0 where
  pub soon : leg.from < 2 ^ 31
  pub slow : IsSlow leg.motion

-- slow motions, the legs rise, and the path is unbroken
pub record IsPath (plan : Plan) : Type 0 where
  pub slow : IsSlow plan.first
  pub fair : All IsFair plan.legs
  pub rising : IsChain is_sooner plan.legs
  pub unbroken : IsUnbroken plan.first plan.legs

-- the plan of a number, if it is live
abbrev pub plan_of : List (Option Plan) → ℕ → Option Plan
plan_of plans i = slice_index_or plans i None

-- the leg is in the plan of a number
pub record IsLegOf (plans : List (Option Plan)) (leg : Leg) : Type 0 where
  pub number : ℕ
  pub plan : Plan
  pub is : plan_of plans number ≡ Some plan
  pub there : Contains plan.legs leg

-- the motion for ever, without legs
abbrev pub lasting : Course → Plan
lasting c = record { first = c; legs = [] }

-- these motions for ever
abbrev pub all_lasting : List (Option Course) → List (Option Plan)
all_lasting ms = map (option_map lasting) ms

-- each plan is a path
pub record ArePaths (plans : List (Option Plan)) : Type 0 where
  pub each : (i : ℕ) (plan : Plan) → plan_of plans i ≡ Some plan → IsPath plan

-- what is left of a plan at a moment: the motion in force, and the legs that aren't begun
abbrev pub left_of : Moment → Plan → Plan
left_of m plan = record { first = motion_in_force m plan; legs = filter (λ leg. not (is_begun leg m)) plan.legs }

-- what is left of all plans
abbrev pub plans_left : Moment → List (Option Plan) → List (Option Plan)
plans_left m plans = map (option_map (left_of m)) plans

-- no leg begins after the first moment and before the second
abbrev pub NoneBeginsBetween : Moment → Moment → List (Option Plan) → Type 0
NoneBeginsBetween now m plans = (leg : Leg) → IsLegOf plans leg → IsEarlier now (beginning leg) → ¬ (IsEarlier (beginning leg) m)

-- motions that go on for ever are in force at each moment
abbrev pub LastingMotionsStay : Type 0
LastingMotionsStay = (ms : List (Option Course)) (m : Moment) → motions_in_force (all_lasting ms) m ≡ ms

-- a leg is begun from its instant on
abbrev pub LegsBeginInTime : Type 0
LegsBeginInTime = (leg : Leg) (m : Moment) → leg.from < 2 ^ 31 → IsCanonical m.at → IsTrue (is_begun leg m) ↔ ¬ (IsEarlier m (beginning leg))

-- what is left of a path is a path
abbrev pub PathsAreLeft : Type 0
PathsAreLeft = (plan : Plan) (m : Moment) → IsPath plan → IsCanonical m.at → IsPath (left_of m plan)

-- what is left later of what is left now is what is left later
abbrev pub PastLegsDontMatter : Type 0
PastLegsDontMatter = (plans : List (Option Plan)) (now m : Moment) → ArePaths plans → IsCanonical now.at → IsCanonical m.at → ¬ (IsEarlier m now) → plans_left m (plans_left now plans) ≡ plans_left m plans

-- as long as no leg has begun before a moment, what is seen there is what the motions of now show, also where legs begin at it
abbrev pub LegsKeepScene : Type 0
LegsKeepScene = (plans : List (Option Plan)) (now m : Moment) → ArePaths plans → IsCanonical now.at → IsCanonical m.at → ¬ (IsEarlier m now) → NoneBeginsBetween now m plans
    → plans_scene plans m ≡ scene_at (motions_in_force plans now) m
