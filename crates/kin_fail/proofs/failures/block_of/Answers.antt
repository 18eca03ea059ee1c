use Rattle.std.proofs.Common.{arith}
use Rattle.std.proofs.lemmas.Grind.{common_steps}
use Rattle.kin_fail.proofs.failures.block_of.Goals as goal

pub loop-owned-preserved : goal.loop-owned-preserved
loop-owned-preserved g c = grind (arith, common_steps)
