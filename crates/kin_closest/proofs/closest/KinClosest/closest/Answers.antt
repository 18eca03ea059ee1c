use Rattle.kin_motion.proofs.UnderNodes.{root_low}
use Rattle.kin_closest.proofs.closest.KinClosest.closest.Goals as goal

pub winner-requires-clause-high : goal.winner-requires-clause-high
winner-requires-clause-high c = root_low _
