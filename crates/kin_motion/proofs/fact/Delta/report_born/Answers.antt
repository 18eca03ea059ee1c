use Rattle.std.proofs.Common.{rules}
use Rattle.kin_motion.proofs.fact.Delta.report_born.Goals as goal

pub returns : goal.returns
returns c = search rules
