use Rattle.std.proofs.Common.{rules}
use Rattle.kin_hull.proofs.sorting.Failed.sort.Goals as goal

pub loop-placed-init : goal.loop-placed-init
loop-placed-init c = search rules
