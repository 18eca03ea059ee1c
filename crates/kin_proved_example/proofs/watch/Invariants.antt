use Rattle.kin_num.specs.Grains.{moments_left}
use Rattle.kin_proved_example.specs.Watched.{IsWatched}
use Rattle.kin_proved_example.proofs.watch.Given as goal

-- between two events the world is whole, and keeps what it kept
abbrev pub invariant-loop-limit : goal.invariant-loop-limit
invariant-loop-limit g l = record { watched : IsWatched l.world }

-- fewer moments are left after each event, so it ends
abbrev pub decreases-loop-limit : goal.decreases-loop-limit
decreases-loop-limit g l = moments_left l.world.moment
