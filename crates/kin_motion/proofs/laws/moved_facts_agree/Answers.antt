use Rattle.kin_motion.proofs.PartLaws.{moved_facts_change, moved_facts_fail, moved_order_facts}
use Rattle.kin_motion.proofs.laws.moved_facts_agree.Goals as goal

pub returns-clause-change : goal.returns-clause-change
returns-clause-change c = moved_facts_change

pub returns-clause-fail : goal.returns-clause-fail
returns-clause-fail c = moved_facts_fail

pub returns-clause-order : goal.returns-clause-order
returns-clause-order c = moved_order_facts
