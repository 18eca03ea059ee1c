use Rattle.kin_chain.proofs.ChainsOfChains.{one_list}
use Rattle.kin_chain.proofs.laws.one_breakpoint_list.Goals as goal

pub returns : goal.returns
returns c = one_list
