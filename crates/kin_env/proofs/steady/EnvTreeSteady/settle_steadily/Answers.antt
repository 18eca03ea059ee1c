use Rattle.std.proofs.Common.{rules}
use Rattle.kin_env.proofs.steady.EnvTreeSteady.settle_steadily.Goals as goal

pub returns-clause-rest : goal.returns-clause-rest
returns-clause-rest g c = search rules

pub returns-clause-settled : goal.returns-clause-settled
returns-clause-settled g c = search rules
