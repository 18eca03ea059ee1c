use Rattle.kin_chain.proofs.SupportLaws.{support_proved, outermost_proved, ties_proved}
use Rattle.kin_chain.proofs.laws.cells_are_supported.Goals as goal

pub returns-clause-support : goal.returns-clause-support
returns-clause-support c = support_proved

pub returns-clause-outermost : goal.returns-clause-outermost
returns-clause-outermost c = outermost_proved

pub returns-clause-ties : goal.returns-clause-ties
returns-clause-ties c = ties_proved
