use Rattle.kin_motion.proofs.OppositeOctants.{octants_are_opposite}
use Rattle.kin_motion.proofs.laws.octants_are_opposite.Goals as goal

pub returns : goal.returns
returns c = octants_are_opposite
