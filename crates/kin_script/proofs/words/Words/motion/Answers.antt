use Rattle.std.proofs.Common.{rules}
use Rattle.kin_script.specs.Words.{motion_at}
use Rattle.kin_script.proofs.words.Words.motion.Goals as goal

pub returns-clause-value : goal.returns-clause-value
unfolding motion_at
returns-clause-value c = search rules
