use Rattle.std.proofs.Common.{◌≢◌, ◌<◌, ◌-◌, length}
use Rattle.kin_tourney.specs.declared.doubt.Doubt.TheVariants.{Clear}
use Rattle.kin_tourney.specs.Standings.{doubt_in}
use Rattle.kin_tourney.proofs.descent.lowest_doubt.Given as goal

abbrev pub invariant-loop-half : goal.invariant-loop-half
invariant-loop-half l = record {
  some : 0 < l.node;
  inside : l.node < length l.doubts;
  doubted : doubt_in l.doubts l.node ≢ Clear;
}

abbrev pub decreases-loop-half : goal.decreases-loop-half
decreases-loop-half l = length l.doubts - l.node
