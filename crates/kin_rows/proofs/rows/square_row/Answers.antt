use Rattle.kin_rows.proofs.Computed.{square_row}
use Rattle.kin_rows.proofs.rows.square_row.Goals as goal

pub returns : goal.returns
returns c = square_row
