use Rattle.std.proofs.Common.{length}
use Rattle.kin_diameter.specs.Changes.{DifferBetween}
use Rattle.kin_diameter.proofs.between.without_front.Given as goal

abbrev pub invariant-front : goal.invariant-front
invariant-front g l = DifferBetween l.fn.old l.fn.new l.old_rest l.new_rest

abbrev pub decreases-front : goal.decreases-front
decreases-front g l = length l.old_rest
