use Rattle.std.proofs.Common.{rules}
use Rattle.kin_world.proofs.structure.Structure.closest.Goals as goal

pub returns-in-Closest : goal.returns-in-Closest
returns-in-Closest c = search rules
