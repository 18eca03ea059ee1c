use Rattle.kin_chain.proofs.Covering.{chain_covers}
use Rattle.kin_chain.proofs.laws.chain_covers.Goals as goal

pub returns : goal.returns
returns c = chain_covers
