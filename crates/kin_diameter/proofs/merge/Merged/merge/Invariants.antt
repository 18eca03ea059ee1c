use Rattle.std.proofs.Common.{◌≡◌, ◌+◌, ◌≤◌, map, reverse, length}
use Rattle.kin_motion.specs.Merges.{Half.{A}, breakpoints_of, slopes_from}
use Rattle.kin_motion.specs.Scene.{placed_at}
use Rattle.kin_motion.specs.Sweeps.{breakpoints_back}
use Rattle.kin_diameter.specs.Merging.{AreAmong}
use Rattle.kin_diameter.specs.Seen.{seen, slope_fact}
use Rattle.kin_diameter.proofs.Merges.{IsUnderWay}
use Rattle.kin_diameter.proofs.merge.Merged.merge.Given as goal

abbrev pub invariant-both : goal.invariant-both
invariant-both g l =
    let s = g.O.Signs.scene l.now in
    record {
      under_way : IsUnderWay s (breakpoints_of A l.upper) (breakpoints_back (reverse l.lower)) (breakpoints_of A l.upper_rest) (breakpoints_back (reverse l.lower_rest)) (map seen l.self.breakpoints.items) l.last;
      facts : map slope_fact l.self.slopes.items ≡ map (placed_at s 0) (slopes_from (map seen l.self.breakpoints.items));
      upper_left : AreAmong l.upper_rest l.upper;
      lower_left : AreAmong l.lower_rest l.lower;
      few : l.steps ≤ l.fn.steps + length l.self.breakpoints.items;
    }

abbrev pub decreases-both : goal.decreases-both
decreases-both g l = length (breakpoints_of A l.upper_rest) + length (breakpoints_back (reverse l.lower_rest))
