use Rattle.std.proofs.Common.{rules}
use Rattle.kin_hull.proofs.sorting.Failed.sort_one.Goals as goal

pub returns-else-placed-eq0-clause-upper : goal.returns-else-placed-eq0-clause-upper
returns-else-placed-eq0-clause-upper c = search rules

pub returns-else-placed-eq0-clause-lower : goal.returns-else-placed-eq0-clause-lower
returns-else-placed-eq0-clause-lower c = search rules
