use Rattle.std.proofs.Common.{rules}
use Rattle.kin_env.proofs.tree.EnvTree.clear.Goals as goal

pub returns : goal.returns
returns c = search rules
