use Rattle.std.proofs.Common.{◌≡◌, ◌≤◌, length, drop, ℕ}
use Rattle.std.specs.Prelude.{IfSome, filter}
use Rattle.kin_motion.specs.Numbers.{IsIn}
use Rattle.kin_motion.specs.Octants.{first_in, is_in_octant}
use Rattle.kin_plain.specs.Seen.{octant_seen}
use Rattle.kin_plain.proofs.octant.candidate_of.Given as goal

abbrev pub invariant-loop-left : goal.invariant-loop-left
invariant-loop-left g l = record {
  within : l.left ≤ length l.live;
  first : l.first ≡ first_in (g.O.Signs.scene l.now) (octant_seen l.octant).third (filter (is_in_octant (g.O.Signs.scene l.now) (octant_seen l.octant) l.p) (drop l.left l.live));
  live : IfSome l.first (λ (q : ℕ). IsIn q (g.O.Signs.scene l.now).live);
}

abbrev pub decreases-loop-left : goal.decreases-loop-left
decreases-loop-left g l = l.left
