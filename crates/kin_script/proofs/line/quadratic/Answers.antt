use Rattle.std.proofs.Common.{rules}
use Rattle.kin_script.specs.Commands.{quadratic_at}
use Rattle.kin_script.proofs.line.quadratic.Goals as goal

pub returns : goal.returns
unfolding quadratic_at
returns c = search rules
