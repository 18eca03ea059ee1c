use Rattle.std.proofs.Common.{rules}
use Rattle.kin_wedge.proofs.octant.third_of.Goals as goal

pub returns-clause-third : goal.returns-clause-third
returns-clause-third c = search rules
