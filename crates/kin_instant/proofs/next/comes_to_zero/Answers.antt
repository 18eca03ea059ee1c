use Rattle.std.proofs.Common.{rules}
use Rattle.kin_instant.proofs.next.comes_to_zero.Goals as goal

pub returns-in-Minus-clause-comes : goal.returns-in-Minus-clause-comes
returns-in-Minus-clause-comes c = search rules

pub returns-in-Minus-clause-rises : goal.returns-in-Minus-clause-rises
returns-in-Minus-clause-rises c = search rules
