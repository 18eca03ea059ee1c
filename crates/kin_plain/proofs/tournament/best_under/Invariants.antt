use Rattle.std.proofs.Common.{◌≡◌, ◌≤◌, drop}
use Rattle.std.specs.Prelude.{IfSome}
use Rattle.kin_motion.specs.Tournaments.{best_of, items_from}
use Rattle.kin_plain.proofs.tournament.best_under.Given as goal

abbrev pub invariant-loop-left : goal.invariant-loop-left
invariant-loop-left g l = record {
  within : l.left ≤ l.end;
  best : l.best ≡ best_of (g.O.Signs.scene l.now) (g.K.Contest.key l.contest) (items_from l.size l.node l.left (drop l.left l.slots));
  may : IfSome l.best (g.K.Contest.may l.contest (g.O.Signs.scene l.now).live);
}

abbrev pub decreases-loop-left : goal.decreases-loop-left
decreases-loop-left g l = l.left
