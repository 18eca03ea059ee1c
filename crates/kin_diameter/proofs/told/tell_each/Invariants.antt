use Rattle.kin_motion.specs.Tournaments.{item_in}
use Rattle.kin_diameter.proofs.Telling.{AreToldTo}
use Rattle.kin_diameter.proofs.told.tell_each.Given as goal

abbrev pub invariant-loop-cell : goal.invariant-loop-cell
invariant-loop-cell l = AreToldTo (item_in l.places) l.cells l.fn.tourney l.tourney l.cell-index
