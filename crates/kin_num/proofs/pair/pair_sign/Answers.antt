use Rattle.std.proofs.Common.{rules}
use Rattle.kin_num.proofs.pair.pair_sign.Goals as goal

pub returns-then-d-eq0 : goal.returns-then-d-eq0
returns-then-d-eq0 c = search rules

pub returns-in-Plus-Minus : goal.returns-in-Plus-Minus
returns-in-Plus-Minus c = search rules

pub returns-in-Minus-Plus : goal.returns-in-Minus-Plus
returns-in-Minus-Plus c = search rules
