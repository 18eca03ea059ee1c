use Rattle.kin_chain.proofs.ChainLaws.{best_point_proved, end_points}
use Rattle.kin_chain.proofs.laws.chain_is_highest.Goals as goal

pub returns-clause-best : goal.returns-clause-best
returns-clause-best c = best_point_proved

pub returns-clause-ends : goal.returns-clause-ends
returns-clause-ends c = end_points
