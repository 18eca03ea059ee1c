use Rattle.kin_far.proofs.BestCells.{best_cell_is_farthest}
use Rattle.kin_far.proofs.laws.best_cell_is_farthest.Goals as goal

pub returns : goal.returns
returns c = best_cell_is_farthest
