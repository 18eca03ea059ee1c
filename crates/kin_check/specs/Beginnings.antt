-- The next leg that begins.
use Rattle.std.specs.Prelude.{◌≡◌, ℕ, ◌≤◌, List, [], ◌∷◌, ◌++◌, Option, Some, None, Contains}
use Rattle.kin_num.specs.declared.instant.Moment.{Moment}
use Rattle.kin_num.specs.Order.{IsEarlier}
use Rattle.kin_motion.specs.Plans.{Leg, Plan}
use Rattle.kin_legs.specs.Paths.{beginning}

-- the legs of all numbers
abbrev pub all_legs : List (Option Plan) → List Leg
all_legs [] = []
all_legs (None ∷ plans) = all_legs plans
all_legs (Some plan ∷ plans) = plan.legs ++ all_legs plans

-- one of these legs begins at this instant, which is after now, and no other does sooner
pub record BeginsNext (now : Moment) (legs : List Leg) (from : ℕ) : Type 0 where
  pub leg : Leg
  pub among : Contains legs leg
  pub at_it : leg.from ≡ from
  pub later : IsEarlier now (beginning leg)
  pub first : (k : Leg) → Contains legs k → IsEarlier now (beginning k) → from ≤ k.from

-- the instant at which the next of these legs begins, or none where none begins after now
abbrev pub IsSoonest : Moment → List Leg → Option ℕ → Type 0
IsSoonest now legs None = (k : Leg) → Contains legs k → ¬ (IsEarlier now (beginning k))
IsSoonest now legs (Some from) = BeginsNext now legs from
