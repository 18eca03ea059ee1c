use Rattle.std.proofs.Common.{◌≡◌, drop}
use Rattle.kin_legs.specs.Scheduling.{last_motion, motion_after}
use Rattle.kin_check.proofs.plan.Plan.last_motion.Given as goal

abbrev pub invariant-loop-leg : goal.invariant-loop-leg
invariant-loop-leg l = motion_after l.motion (drop l.leg-index l.leg-items) ≡ last_motion l.self
