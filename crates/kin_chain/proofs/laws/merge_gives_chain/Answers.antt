use Rattle.kin_chain.proofs.MergedChain.{merge_gives_chain}
use Rattle.kin_chain.proofs.laws.merge_gives_chain.Goals as goal

pub returns : goal.returns
returns c = merge_gives_chain
