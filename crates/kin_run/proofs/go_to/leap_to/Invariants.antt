use Rattle.kin_run.proofs.Vocabulary.{moments_left, HasArrived, IsEarlier}
use Rattle.kin_run.proofs.go_to.leap_to.Given as goal

-- on the way to the limit
abbrev pub invariant-loop : goal.invariant-loop
invariant-loop g l = record {
  arrived : HasArrived l.world.moment l.fn.world l.world;
  later : ¬ (IsEarlier l.limit l.world.moment);
}

abbrev pub decreases-loop : goal.decreases-loop
decreases-loop g l = moments_left l.world.moment
