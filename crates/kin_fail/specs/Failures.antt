-- The first failure of a fact.
use Rattle.std.specs.Prelude.{Option, Some, None, []}
use Rattle.kin_num.specs.declared.instant.Moment.{Moment}
use Rattle.kin_num.specs.Quadratic.{Quadratic}
use Rattle.kin_num.specs.Canonical.{IsCanonical}
use Rattle.kin_num.specs.Instants.{sign_at}
use Rattle.kin_num.specs.Order.{IsEarlier}
use Rattle.kin_motion.specs.declared.fact.Fact.{Fact}
use Rattle.kin_motion.specs.Scene.{Scene}
use Rattle.kin_motion.specs.Moments.{HoldsAt, FailsFirst}

-- what is seen where this polynomial is that of each form
abbrev pub seen_by : Quadratic → Moment → Scene
seen_by p m = record { live = []; sign = λ f. sign_at p m }

-- the fact holds at every moment from now on
abbrev pub NeverFails : (Moment → Scene) → Moment → Fact → Type 0
NeverFails scene now f = (m : Moment) → IsCanonical m.at → ¬ (IsEarlier m now) → HoldsAt scene m f

-- the first failure seen from now, or none exactly where there is none
abbrev pub IsFirstFailure : (Moment → Scene) → Moment → Fact → Option Moment → Type 0
IsFirstFailure scene now f None = NeverFails scene now f
IsFirstFailure scene now f (Some later) = FailsFirst scene now later f
