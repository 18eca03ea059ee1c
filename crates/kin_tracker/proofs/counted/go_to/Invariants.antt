use Rattle.kin_num.specs.Grains.{moments_left}
use Rattle.kin_num.specs.Order.{IsEarlier}
use Rattle.kin_tracker.specs.Times.{HasArrived}
use Rattle.kin_tracker.proofs.Arriving.{HasCause}
use Rattle.kin_tracker.proofs.counted.go_to.Given as goal

-- on the way to the moment
abbrev pub invariant-loop-steps : goal.invariant-loop-steps
invariant-loop-steps g l = record {
  arrived : HasArrived l.world.moment l.fn.world l.world;
  later : ¬ (IsEarlier l.moment l.world.moment);
  cause : HasCause l.moment l.fn.world l.world;
}

abbrev pub decreases-loop-steps : goal.decreases-loop-steps
decreases-loop-steps g l = moments_left l.world.moment
