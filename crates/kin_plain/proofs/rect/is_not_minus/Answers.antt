use Rattle.std.proofs.Common.{rules}
use Rattle.kin_plain.proofs.rect.is_not_minus.Goals as goal

pub returns-in-Minus : goal.returns-in-Minus
returns-in-Minus c = search rules
