use Rattle.std.proofs.Common.{arith}
use Rattle.std.proofs.Math.Pow.{pow_mono}
use Rattle.kin_wedge.proofs.table.numbers_of.Goals as goal

pub returns-clause-small : goal.returns-clause-small
returns-clause-small c = let l = pow_mono c.requires in omega (arith, l)
