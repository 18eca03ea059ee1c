use Rattle.std.proofs.Common.{rules}
use Rattle.kin_run.proofs.run.run_input.Goals as goal

pub returns-in-Ok-clause-headline : goal.returns-in-Ok-clause-headline
returns-in-Ok-clause-headline g c = search rules
