use Rattle.std.proofs.Common.{arith}
use Rattle.std.proofs.lemmas.Grind.{common_steps}
use Rattle.kin_range.proofs.pick.pick.Goals as goal

pub loop-no-preserved : goal.loop-no-preserved
loop-no-preserved c = grind (arith, common_steps)
