use Rattle.std.proofs.Common.{◌≡◌, drop}
use Rattle.kin_motion.specs.Plans.{last_begun, motion_in_force}
use Rattle.kin_check.proofs.plan.Plan.motion_at.Given as goal

abbrev pub invariant-loop-leg : goal.invariant-loop-leg
invariant-loop-leg l = last_begun l.motion (drop l.leg-index l.leg-items) l.moment ≡ motion_in_force l.moment l.self
