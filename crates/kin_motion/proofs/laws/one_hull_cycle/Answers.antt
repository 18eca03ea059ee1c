use Rattle.kin_motion.proofs.OneLaws.{one_hull_cycle}
use Rattle.kin_motion.proofs.laws.one_hull_cycle.Goals as goal

pub returns : goal.returns
returns c = one_hull_cycle
