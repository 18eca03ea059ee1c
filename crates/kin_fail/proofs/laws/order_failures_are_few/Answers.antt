use Rattle.kin_fail.proofs.OrderCount.{order_failures_are_few}
use Rattle.kin_fail.proofs.laws.order_failures_are_few.Goals as goal

pub returns : goal.returns
returns c = order_failures_are_few
