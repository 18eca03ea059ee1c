use Rattle.kin_motion.proofs.UnderNodes.{root_low}
use Rattle.kin_diameter.proofs.diameter.KinDiameter.farthest.Goals as goal

pub winner-requires-clause-high : goal.winner-requires-clause-high
winner-requires-clause-high c = root_low _
