use Rattle.std.proofs.Common.{rules}
use Rattle.kin_script.specs.Changes.{leg_of}
use Rattle.kin_script.proofs.line.leg.Goals as goal

pub returns : goal.returns
unfolding leg_of
returns c = search rules
