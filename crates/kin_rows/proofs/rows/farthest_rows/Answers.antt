use Rattle.kin_rows.proofs.Computed.{farthest_rows}
use Rattle.kin_rows.proofs.rows.farthest_rows.Goals as goal

pub returns : goal.returns
returns c = farthest_rows
