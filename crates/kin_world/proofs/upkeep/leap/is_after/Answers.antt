use Rattle.std.proofs.Common.{rules}
use Rattle.kin_world.proofs.upkeep.leap.is_after.Goals as goal

pub returns : goal.returns
returns g c = search rules
