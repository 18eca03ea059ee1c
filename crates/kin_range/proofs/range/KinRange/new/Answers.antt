use Rattle.std.proofs.Common.{rules}
use Rattle.kin_range.proofs.range.KinRange.new.Goals as goal

pub invariant_of-result-2 : goal.invariant_of-result-2
invariant_of-result-2 c = search rules

pub returns : goal.returns
returns c = search rules
