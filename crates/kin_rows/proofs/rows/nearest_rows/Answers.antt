use Rattle.kin_rows.proofs.Computed.{nearest_rows}
use Rattle.kin_rows.proofs.rows.nearest_rows.Goals as goal

pub returns : goal.returns
returns c = nearest_rows
