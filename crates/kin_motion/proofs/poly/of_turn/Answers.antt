use Rattle.std.proofs.Common.{rules}
use Rattle.kin_motion.specs.Forms.{polynomial_of}
use Rattle.kin_motion.proofs.poly.of_turn.Goals as goal

pub returns : goal.returns
unfolding polynomial_of
returns c = search rules
