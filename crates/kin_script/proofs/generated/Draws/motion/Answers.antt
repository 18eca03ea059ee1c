use Rattle.std.proofs.Common.{rules}
use Rattle.kin_script.specs.Generated.{state_after, course_behind}
use Rattle.kin_script.proofs.generated.Draws.motion.Goals as goal

pub returns-clause-value : goal.returns-clause-value
unfolding state_after course_behind
returns-clause-value c = search rules
