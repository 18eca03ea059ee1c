use Rattle.kin_tourney.proofs.Climbing.{IsClimbing}
use Rattle.kin_tourney.proofs.descent.pass_up.Given as goal

abbrev pub invariant-loop-node : goal.invariant-loop-node
invariant-loop-node l = IsClimbing l.initial.doubts l.initial.node l.doubts l.node

abbrev pub decreases-loop-node : goal.decreases-loop-node
decreases-loop-node l = l.node
