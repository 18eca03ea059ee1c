use Rattle.std.proofs.Common.{rules}
use Rattle.kin_hull.proofs.side.Side.outward.Goals as goal

pub returns-in-Upper : goal.returns-in-Upper
returns-in-Upper c = search rules

pub returns-in-Lower : goal.returns-in-Lower
returns-in-Lower c = search rules
