use Rattle.std.proofs.Common.{rules}
use Rattle.kin_status.proofs.asked.is_before.Goals as goal

pub returns-in-Less : goal.returns-in-Less
returns-in-Less c = search rules
