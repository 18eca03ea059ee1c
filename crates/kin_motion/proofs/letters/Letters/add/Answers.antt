use Rattle.std.proofs.Common.{rules}
use Rattle.kin_motion.proofs.letters.Letters.add.Goals as goal

pub returns : goal.returns
returns c = search rules
