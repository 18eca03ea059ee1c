use Rattle.kin_wedge.specs.Seen.{rows_of}
use Rattle.kin_wedge.proofs.TakenUp.{AreTakenUp}
use Rattle.kin_wedge.proofs.renew.renew_all.Given as goal

abbrev pub invariant-loop-touch : goal.invariant-loop-touch
invariant-loop-touch l = AreTakenUp (rows_of l.orders.lists.items) l.fn.table l.table l.touches l.touch-index
