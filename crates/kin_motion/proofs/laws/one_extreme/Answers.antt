use Rattle.kin_motion.proofs.OneLaws.{one_extreme}
use Rattle.kin_motion.proofs.laws.one_extreme.Goals as goal

pub returns : goal.returns
returns c = one_extreme
