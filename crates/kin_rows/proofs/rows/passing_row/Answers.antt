use Rattle.kin_rows.proofs.Computed.{passing_row}
use Rattle.kin_rows.proofs.rows.passing_row.Goals as goal

pub returns : goal.returns
returns c = passing_row
