use Rattle.std.proofs.Common.{rules}
use Rattle.kin_motion.proofs.motion.Motion.new.Goals as goal

pub returns : goal.returns
returns c = search rules
