use Rattle.std.proofs.Common.{rules}
use Rattle.kin_pairs.proofs.pair.Pair.against.Goals as goal

pub returns : goal.returns
returns c = search rules
