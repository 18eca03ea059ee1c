use Rattle.std.proofs.Common.{rules}
use Rattle.kin_instant.proofs.key.numerator.Goals as goal

pub overflow_add-result : goal.overflow_add-result
overflow_add-result c = search rules

pub returns-in-false-false : goal.returns-in-false-false
returns-in-false-false c = search rules
