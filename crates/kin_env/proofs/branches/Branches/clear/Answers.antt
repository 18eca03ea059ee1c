use Rattle.std.proofs.Common.{rules}
use Rattle.kin_env.proofs.branches.Branches.clear.Goals as goal

pub returns-clause-told : goal.returns-clause-told
returns-clause-told c = search rules
