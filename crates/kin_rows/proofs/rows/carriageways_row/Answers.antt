use Rattle.kin_rows.proofs.Computed.{carriageways_row}
use Rattle.kin_rows.proofs.rows.carriageways_row.Goals as goal

pub returns : goal.returns
returns c = carriageways_row
