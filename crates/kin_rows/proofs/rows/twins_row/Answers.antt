use Rattle.kin_rows.proofs.Computed.{twins_row}
use Rattle.kin_rows.proofs.rows.twins_row.Goals as goal

pub returns : goal.returns
returns c = twins_row
