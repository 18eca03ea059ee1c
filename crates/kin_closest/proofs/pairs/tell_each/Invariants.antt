use Rattle.kin_wedge.specs.Wedging.{candidate_told}
use Rattle.kin_closest.specs.Told.{AreTold}
use Rattle.kin_closest.proofs.pairs.tell_each.Given as goal

abbrev pub invariant-loop-slot : goal.invariant-loop-slot
invariant-loop-slot l = AreTold (candidate_told l.wedges) l.slots l.slot-index l.fn.pairs l.pairs
