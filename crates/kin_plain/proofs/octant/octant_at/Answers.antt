use Rattle.std.proofs.Common.{rules}
use Rattle.kin_plain.proofs.octant.octant_at.Goals as goal

pub returns-in-1-clause-octant : goal.returns-in-1-clause-octant
returns-in-1-clause-octant c = search rules
