use Rattle.std.proofs.Common.{rules}
use Rattle.kin_instant.proofs.key.key_of.Goals as goal

pub returns-else-n-lt0-clause-key : goal.returns-else-n-lt0-clause-key
returns-else-n-lt0-clause-key c = search rules
