use Rattle.kin_far.proofs.FarCells.{farthest_is_cell}
use Rattle.kin_far.proofs.laws.farthest_is_cell.Goals as goal

pub returns : goal.returns
returns c = farthest_is_cell
