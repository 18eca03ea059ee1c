use Rattle.std.proofs.Common.{rules}
use Rattle.kin_script.proofs.generated.least_size.Goals as goal

pub returns : goal.returns
returns c = search rules
