use Rattle.std.proofs.Common.{length}
use Rattle.kin_diameter.specs.Changes.{DifferBetween}
use Rattle.kin_diameter.proofs.between.before_end.Given as goal

abbrev pub invariant-end : goal.invariant-end
invariant-end g l = DifferBetween l.fn.old l.fn.new l.old_rest l.new_rest

abbrev pub decreases-end : goal.decreases-end
decreases-end g l = length l.old_rest
