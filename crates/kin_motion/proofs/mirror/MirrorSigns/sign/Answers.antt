use Rattle.std.proofs.Common.{rules}
use Rattle.kin_motion.proofs.mirror.MirrorSigns.sign.Goals as goal

pub returns-in-Line-clause-value : goal.returns-in-Line-clause-value
returns-in-Line-clause-value g c = search rules

pub returns-in-Turn-clause-value : goal.returns-in-Turn-clause-value
returns-in-Turn-clause-value g c = search rules
