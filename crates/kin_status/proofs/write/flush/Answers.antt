use Rattle.std.proofs.Common.{rules}
use Rattle.kin_status.proofs.write.flush.Goals as goal

pub returns-clause-all : goal.returns-clause-all
returns-clause-all g c = search rules
