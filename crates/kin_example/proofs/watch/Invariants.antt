use Rattle.kin_num.specs.Grains.{moments_left}
use Rattle.kin_example.proofs.watch.Given as goal

-- fewer moments are left after each event, so it ends
abbrev pub decreases-loop-tracker : goal.decreases-loop-tracker
decreases-loop-tracker l = moments_left l.tracker.moment
