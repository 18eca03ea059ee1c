use Rattle.std.proofs.Common.{rules}
use Rattle.kin_run.proofs.run.run_script.Goals as goal

pub returns-in-Ok-None-clause-writes : goal.returns-in-Ok-None-clause-writes
returns-in-Ok-None-clause-writes g c = search rules
