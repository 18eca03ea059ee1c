use Rattle.std.proofs.Common.{rules}
use Rattle.kin_range.proofs.side.Side.left.Goals as goal

pub returns : goal.returns
returns c = search rules
