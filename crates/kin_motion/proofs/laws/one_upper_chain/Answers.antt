use Rattle.kin_motion.proofs.Proved.{chain_is_one}
use Rattle.kin_motion.proofs.laws.one_upper_chain.Goals as goal

pub returns : goal.returns
returns c = chain_is_one
