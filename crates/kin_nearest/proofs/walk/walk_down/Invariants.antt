use Rattle.kin_nearest.proofs.Stepping.{IsOnTheWay}
use Rattle.kin_nearest.proofs.walk.walk_down.Given as goal

abbrev pub invariant-loop-next : goal.invariant-loop-next
invariant-loop-next g l = IsOnTheWay (g.O.Signs.scene l.now) l.wedges.size l.no l.apex l.fn.steps l.end l.steps

abbrev pub decreases-loop-next : goal.decreases-loop-next
decreases-loop-next g l = l.end
