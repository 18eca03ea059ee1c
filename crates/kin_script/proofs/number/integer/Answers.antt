use Rattle.std.proofs.Common.{arith}
use Rattle.std.proofs.lemmas.Grind.{common_steps}
use Rattle.kin_script.specs.Numbers.{integer_of}
use Rattle.kin_script.proofs.number.integer.Goals as goal

pub returns-in_ok-numeral-in-45-clause-value : goal.returns-in_ok-numeral-in-45-clause-value
unfolding integer_of
returns-in_ok-numeral-in-45-clause-value c = grind (arith, common_steps)
