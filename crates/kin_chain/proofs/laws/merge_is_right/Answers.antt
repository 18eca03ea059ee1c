use Rattle.kin_chain.proofs.MergeRight.{merge_is_right, merge_is_settled}
use Rattle.kin_chain.proofs.MergeDetermined.{merge_is_determined}
use Rattle.kin_chain.proofs.laws.merge_is_right.Goals as goal

pub returns-clause-right : goal.returns-clause-right
returns-clause-right c = merge_is_right

pub returns-clause-settled : goal.returns-clause-settled
returns-clause-settled c = merge_is_settled

pub returns-clause-determined : goal.returns-clause-determined
returns-clause-determined c = merge_is_determined
