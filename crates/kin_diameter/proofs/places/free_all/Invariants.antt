use Rattle.kin_diameter.proofs.Placing.{AreFreed}
use Rattle.kin_diameter.proofs.places.free_all.Given as goal

abbrev pub invariant-loop-cell : goal.invariant-loop-cell
invariant-loop-cell l = AreFreed l.cells l.fn.places l.places l.cell-index
