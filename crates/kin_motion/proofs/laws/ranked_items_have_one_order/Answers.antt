use Rattle.kin_motion.proofs.BoxFactLaws.{order_of_ends}
use Rattle.kin_motion.proofs.RankedLaws.{order_is_one, order_agrees, order_facts_agree, order_determined, points_order}
use Rattle.kin_motion.proofs.laws.ranked_items_have_one_order.Goals as goal

pub returns-clause-one : goal.returns-clause-one
returns-clause-one c = order_is_one

pub returns-clause-order : goal.returns-clause-order
returns-clause-order c = order_agrees

pub returns-clause-facts : goal.returns-clause-facts
returns-clause-facts c = order_facts_agree

pub returns-clause-determined : goal.returns-clause-determined
returns-clause-determined c = order_determined

pub returns-clause-points : goal.returns-clause-points
returns-clause-points c = points_order

pub returns-clause-ends : goal.returns-clause-ends
returns-clause-ends c = order_of_ends
