use Rattle.kin_motion.proofs.Proved.{order_is_determined}
use Rattle.kin_motion.proofs.laws.order_is_determined.Goals as goal

pub returns : goal.returns
returns c = order_is_determined
