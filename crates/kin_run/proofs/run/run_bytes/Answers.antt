use Rattle.std.proofs.Common.{rules}
use Rattle.kin_run.proofs.run.run_bytes.Goals as goal

pub returns-in-Ok-clause-writes : goal.returns-in-Ok-clause-writes
returns-in-Ok-clause-writes g c = search rules
