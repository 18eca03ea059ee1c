use Rattle.kin_chain.proofs.ChainLaws.{different_x, turning_right, smaller_set}
use Rattle.kin_chain.proofs.laws.points_that_stay.Goals as goal

pub returns-clause-different : goal.returns-clause-different
returns-clause-different c = different_x

pub returns-clause-turning : goal.returns-clause-turning
returns-clause-turning c = turning_right

pub returns-clause-smaller : goal.returns-clause-smaller
returns-clause-smaller c = smaller_set
