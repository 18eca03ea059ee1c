use Rattle.kin_motion.proofs.OneLaws.{one_closest}
use Rattle.kin_motion.proofs.laws.one_closest.Goals as goal

pub returns : goal.returns
returns c = one_closest
