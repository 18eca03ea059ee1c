use Rattle.kin_wedge.proofs.Entering.{AreOfferedTo}
use Rattle.kin_wedge.specs.Seen.{rows_of}
use Rattle.kin_wedge.proofs.around.offer_from.Given as goal

abbrev pub invariant-loop-k : goal.invariant-loop-k
invariant-loop-k l = AreOfferedTo (rows_of l.orders.lists.items) l.table l.no l.fn.touches.all.items l.touches.all.items l.from l.k
