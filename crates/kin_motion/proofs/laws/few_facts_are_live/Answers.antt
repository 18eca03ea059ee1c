use Rattle.kin_motion.proofs.DiameterCounts.{few_diameter_facts}
use Rattle.kin_motion.proofs.FactCounts.{few_facts, few_live_facts}
use Rattle.kin_motion.proofs.laws.few_facts_are_live.Goals as goal

pub returns-clause-structure : goal.returns-clause-structure
returns-clause-structure c = few_facts

pub returns-clause-all : goal.returns-clause-all
returns-clause-all c = few_live_facts

pub returns-clause-diameter : goal.returns-clause-diameter
returns-clause-diameter c = few_diameter_facts
