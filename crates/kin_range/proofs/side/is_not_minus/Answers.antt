use Rattle.std.proofs.Common.{rules}
use Rattle.kin_range.proofs.side.is_not_minus.Goals as goal

pub returns-in-Minus : goal.returns-in-Minus
returns-in-Minus c = search rules
