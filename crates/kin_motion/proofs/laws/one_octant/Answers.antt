use Rattle.kin_motion.proofs.Proved.{octant_is_one}
use Rattle.kin_motion.proofs.laws.one_octant.Goals as goal

pub returns : goal.returns
returns c = octant_is_one
