use Rattle.std.proofs.Common.{rules}
use Rattle.kin_closest.proofs.pairs.tell_all.Goals as goal

pub returns : goal.returns
returns c = search rules
