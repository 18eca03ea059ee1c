use Rattle.std.proofs.Common.{◌++◌, List, take}
use Rattle.kin_motion.specs.Plans.{Leg}
use Rattle.kin_check.specs.Beginnings.{IsSoonest}
use Rattle.kin_check.proofs.plan.Plan.soonest.Given as goal

abbrev pub invariant-loop-leg : goal.invariant-loop-leg
invariant-loop-leg l = (passed : List Leg) → IsSoonest l.moment passed l.fn.found → IsSoonest l.moment (passed ++ take l.leg-index l.leg-items) l.soonest
