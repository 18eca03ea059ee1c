use Rattle.std.proofs.Common.{take}
use Rattle.kin_motion.specs.Scene.{scene_at}
use Rattle.kin_check.specs.Least.{IsLeastFailure}
use Rattle.kin_check.proofs.least.least_failure.Given as goal

abbrev pub invariant-loop-fact : goal.invariant-loop-fact
invariant-loop-fact g l = IsLeastFailure (scene_at l.motions) l.now (take l.fact-index l.facts) l.least
