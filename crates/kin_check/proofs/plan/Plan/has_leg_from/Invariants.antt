use Rattle.std.proofs.Common.{◌≤◌, take}
use Rattle.std.specs.Prelude.{Contains}
use Rattle.kin_motion.specs.Plans.{Leg}
use Rattle.kin_check.proofs.plan.Plan.has_leg_from.Given as goal

abbrev pub invariant-loop-leg : goal.invariant-loop-leg
invariant-loop-leg l = (k : Leg) → Contains (take l.leg-index l.leg-items) k → ¬ (l.at ≤ k.from)
