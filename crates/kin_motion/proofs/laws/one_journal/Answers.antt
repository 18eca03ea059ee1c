use Rattle.kin_motion.proofs.JournalLaws.{first_failure_is_one, next_block_is_one, journal_is_one}
use Rattle.kin_motion.proofs.laws.one_journal.Goals as goal

pub returns-clause-failure : goal.returns-clause-failure
returns-clause-failure c = first_failure_is_one

pub returns-clause-block : goal.returns-clause-block
returns-clause-block c = next_block_is_one

pub returns-clause-journal : goal.returns-clause-journal
returns-clause-journal c = journal_is_one
