use Rattle.std.proofs.Common.{rules}
use Rattle.kin_script.specs.Commands.{command_of}
use Rattle.kin_script.proofs.line.command_of.Goals as goal

pub returns-then-eq-6 : goal.returns-then-eq-6
unfolding command_of
returns-then-eq-6 c = search rules
