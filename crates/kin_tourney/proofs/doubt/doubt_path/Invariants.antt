use Rattle.kin_tourney.proofs.Doubts.{IsSpreading}
use Rattle.kin_tourney.proofs.doubt.doubt_path.Given as goal

abbrev pub invariant-loop-doubt : goal.invariant-loop-doubt
invariant-loop-doubt l = IsSpreading l.initial.doubts l.doubts l.doubt l.node-2 l.node

abbrev pub decreases-loop-doubt : goal.decreases-loop-doubt
decreases-loop-doubt l = l.node
