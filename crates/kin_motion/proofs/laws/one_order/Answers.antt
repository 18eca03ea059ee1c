use Rattle.kin_motion.proofs.Proved.{order_is_one}
use Rattle.kin_motion.proofs.laws.one_order.Goals as goal

pub returns : goal.returns
returns c = order_is_one
