use Rattle.std.proofs.Common.{rules}
use Rattle.kin_world.proofs.upkeep.leap.landing.Goals as goal

pub returns-then-none_holds : goal.returns-then-none_holds
returns-then-none_holds g c = search rules
