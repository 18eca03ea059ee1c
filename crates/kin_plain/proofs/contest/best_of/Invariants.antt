use Rattle.std.proofs.Common.{◌≡◌, ◌≤◌, length, drop}
use Rattle.std.specs.Prelude.{IfSome}
use Rattle.kin_motion.specs.Tournaments.{best_of}
use Rattle.kin_plain.proofs.contest.best_of.Given as goal

abbrev pub invariant-loop-left : goal.invariant-loop-left
invariant-loop-left g l = record {
  within : l.left ≤ length l.items;
  best : l.best ≡ best_of (g.O.Signs.scene l.now) (g.K.Contest.key l.contest) (drop l.left l.items);
  may : IfSome l.best (g.K.Contest.may l.contest (g.O.Signs.scene l.now).live);
}

abbrev pub decreases-loop-left : goal.decreases-loop-left
decreases-loop-left g l = l.left
