use Rattle.std.proofs.Common.{rules}
use Rattle.kin_wedge.proofs.changed.is_changed.Goals as goal

pub returns : goal.returns
returns c = search rules
