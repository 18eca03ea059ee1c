use Rattle.std.proofs.Common.{rules}
use Rattle.kin_instant.proofs.root_sign.on_side.Goals as goal

pub returns-then-upper : goal.returns-then-upper
returns-then-upper c = search rules

pub returns-else-upper : goal.returns-else-upper
returns-else-upper c = search rules
