use Rattle.std.proofs.Common.{rules}
use Rattle.kin_instant.proofs.order.place.Goals as goal

pub returns-in_default-Plus-default : goal.returns-in_default-Plus-default
returns-in_default-Plus-default c = search rules

pub returns-in_default-Plus-default-2 : goal.returns-in_default-Plus-default-2
returns-in_default-Plus-default-2 c = search rules
