use Rattle.kin_fail.proofs.JournalExistence.{next_blocks_exist, journals_exist}
use Rattle.kin_fail.proofs.laws.journals_exist.Goals as goal

pub returns : goal.returns
returns c = record { block = next_blocks_exist; journal = journals_exist }
