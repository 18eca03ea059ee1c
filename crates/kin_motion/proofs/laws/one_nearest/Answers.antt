use Rattle.kin_motion.proofs.NearestLaws.{one_nearest}
use Rattle.kin_motion.proofs.laws.one_nearest.Goals as goal

pub returns : goal.returns
returns c = one_nearest
