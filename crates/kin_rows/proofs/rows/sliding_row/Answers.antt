use Rattle.kin_rows.proofs.Computed.{sliding_row}
use Rattle.kin_rows.proofs.rows.sliding_row.Goals as goal

pub returns : goal.returns
returns c = sliding_row
