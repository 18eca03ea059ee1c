use Rattle.kin_motion.proofs.FarthestLaws.{one_farthest}
use Rattle.kin_motion.proofs.laws.one_farthest.Goals as goal

pub returns : goal.returns
returns c = one_farthest
