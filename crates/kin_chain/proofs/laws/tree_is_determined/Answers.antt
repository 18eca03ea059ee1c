use Rattle.kin_chain.proofs.TreeDetermined.{tree_is_determined}
use Rattle.kin_chain.proofs.laws.tree_is_determined.Goals as goal

pub returns : goal.returns
returns c = tree_is_determined
