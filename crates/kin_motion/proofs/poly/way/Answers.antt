use Rattle.std.proofs.Common.{rules}
use Rattle.kin_motion.proofs.poly.way.Goals as goal

pub returns-clause-value : goal.returns-clause-value
returns-clause-value c = search rules
