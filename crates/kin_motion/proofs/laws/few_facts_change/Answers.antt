use Rattle.kin_motion.proofs.RecordLaws.{facts_are_recorded}
use Rattle.kin_motion.proofs.TouchedLaws.{few_facts_change, few_facts_are_reported}
use Rattle.kin_motion.proofs.laws.few_facts_change.Goals as goal

pub returns-clause-recorded : goal.returns-clause-recorded
returns-clause-recorded c = facts_are_recorded

pub returns-clause-changed : goal.returns-clause-changed
returns-clause-changed c = few_facts_change

pub returns-clause-reported : goal.returns-clause-reported
returns-clause-reported c = few_facts_are_reported
