-- Motions and the legs that are planned for all points together, as a plan for each number.
use Rattle.std.specs.Prelude.{◌≡◌, ◌<◌, ℕ, ◌+◌, ◌++◌, List, [], ◌∷◌, map, Option, Some, option_map, slice_set, Contains, IsTrue, IsFalse, IfSome}
use Rattle.kin_num.specs.declared.instant.Moment.{Moment}
use Rattle.kin_num.specs.Order.{IsEarlier}
use Rattle.kin_motion.specs.Course.{Course, is_live, motion_of}
use Rattle.kin_motion.specs.Numbers.{put_in}
use Rattle.kin_motion.specs.Plans.{Leg, Plan, is_begun, motions_in_force}
use Rattle.kin_legs.specs.declared.leg.Leg.{Leg as Planned}
use Rattle.kin_legs.specs.Paths.{ArePaths, beginning, lasting, plans_left}
use Rattle.kin_legs.specs.Planning.{IsRising, is_earlier, last, legs_of, without}

-- a leg, in the plan of its number
abbrev pub piece_of : Planned → Leg
piece_of l = record { from = l.at; motion = l.m }

-- the motion, and then the legs of the number
abbrev pub plan_with : List Planned → ℕ → Course → Plan
plan_with legs number c = record { first = c; legs = map piece_of (legs_of number legs) }

-- the plans of the numbers from the first on
abbrev pub plans_from : ℕ → List (Option Course) → List Planned → List (Option Plan)
plans_from first [] legs = []
plans_from first (c ∷ cs) legs = option_map (plan_with legs first) c ∷ plans_from (first + 1) cs legs

-- the plan of each number
abbrev pub plans_of : List (Option Course) → List Planned → List (Option Plan)
plans_of ms legs = plans_from 0 ms legs

-- the moment at which a leg begins
abbrev pub begins_at : Planned → Moment
begins_at l = beginning (piece_of l)

-- legs by rising instant and number, all of live numbers, which follow paths
pub record AreFollowed (ms : List (Option Course)) (legs : List Planned) : Type 0 where
  pub rising : IsRising legs
  pub live : (l : Planned) → Contains legs l → IsTrue (is_live ms l.no)
  pub paths : ArePaths (plans_of ms legs)

-- each begins later
abbrev pub AreAhead : Moment → List Planned → Type 0
AreAhead now legs = (l : Planned) → Contains legs l → IsEarlier now (begins_at l)

-- the plan with one leg more
abbrev pub with_leg : Plan → Leg → Plan
with_leg plan leg = record plan { legs = plan.legs ++ leg ∷ [] }

-- a number that loses its legs has its motion alone
abbrev pub DroppedLegsAreGone : Type 0
DroppedLegsAreGone = (ms : List (Option Course)) (legs : List Planned) (n : ℕ) (c : Option Course) → plans_of (slice_set ms n c) (without n legs) ≡ slice_set (plans_of ms legs) n (option_map lasting c)

-- a leg that is put in after all others of its number is at the end of its plan
abbrev pub AddedLegsAreLast : Type 0
AddedLegsAreLast =
    (ms : List (Option Course)) (legs : List Planned) (l : Planned) (c : Course) → IsRising legs → IfSome (last (legs_of l.no legs)) (λ k. k.at < l.at) → motion_of ms l.no ≡ Some c
    → plans_of ms (put_in is_earlier l legs) ≡ slice_set (plans_of ms legs) l.no (Some (with_leg (plan_with legs l.no c) (piece_of l)))

-- where the first leg is begun, the same is left with it and with its motion put in for the one before
abbrev pub BegunLegsAreMotions : Type 0
BegunLegsAreMotions =
    (ms : List (Option Course)) (l : Planned) (legs : List Planned) (c : Course) (m : Moment) → motion_of ms l.no ≡ Some c → IsTrue (is_begun (piece_of l) m)
    → plans_left m (plans_of ms (l ∷ legs)) ≡ plans_left m (plans_of (slice_set ms l.no (Some l.m)) legs)

-- where no leg is begun, all is left, and the motions are in force
pub record AreAllAhead (ms : List (Option Course)) (legs : List Planned) (m : Moment) : Type 0 where
  pub left : plans_left m (plans_of ms legs) ≡ plans_of ms legs
  pub force : motions_in_force (plans_of ms legs) m ≡ ms

abbrev pub LegsAheadAreLeft : Type 0
LegsAheadAreLeft = (ms : List (Option Course)) (legs : List Planned) (m : Moment) → ((l : Planned) → Contains legs l → IsFalse (is_begun (piece_of l) m)) → AreAllAhead ms legs m
