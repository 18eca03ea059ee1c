use Rattle.kin_chain.proofs.ChainsOfChains.{chain_of_chains, facts_of_chains}
use Rattle.kin_chain.proofs.laws.chains_stand_for_sets.Goals as goal

pub returns-clause-chain : goal.returns-clause-chain
returns-clause-chain c = chain_of_chains

pub returns-clause-facts : goal.returns-clause-facts
returns-clause-facts c = facts_of_chains
