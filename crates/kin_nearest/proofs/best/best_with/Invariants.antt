use Rattle.kin_nearest.proofs.Searching.{IsSearched}
use Rattle.kin_nearest.proofs.best.best_with.Given as goal

abbrev pub invariant-loop-apex : goal.invariant-loop-apex
invariant-loop-apex g l = IsSearched l.wedges (g.O.Signs.scene l.now) l.no l.octant l.fn.best l.fn.steps l.best l.steps l.apex-iterator
