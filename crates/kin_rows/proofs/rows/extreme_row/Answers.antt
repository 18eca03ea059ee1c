use Rattle.kin_rows.proofs.Computed.{extreme_row}
use Rattle.kin_rows.proofs.rows.extreme_row.Goals as goal

pub returns : goal.returns
returns c = extreme_row
