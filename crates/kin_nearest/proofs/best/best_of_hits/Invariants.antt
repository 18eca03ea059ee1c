use Rattle.kin_nearest.proofs.Searching.{AreSearched}
use Rattle.kin_nearest.proofs.best.best_of_hits.Given as goal

abbrev pub invariant-loop-octant : goal.invariant-loop-octant
invariant-loop-octant g l = AreSearched l.wedges (g.O.Signs.scene l.now) l.no l.octant l.fn.steps l.best l.steps
