use Rattle.kin_diameter.proofs.Placing.{AreLaidOut}
use Rattle.kin_diameter.proofs.places.lay_out.Given as goal

abbrev pub invariant-loop-cell : goal.invariant-loop-cell
invariant-loop-cell l = AreLaidOut l.cells l.fn.places l.places l.cell-index
