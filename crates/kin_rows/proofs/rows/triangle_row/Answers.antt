use Rattle.kin_rows.proofs.Computed.{triangle_row}
use Rattle.kin_rows.proofs.rows.triangle_row.Goals as goal

pub returns : goal.returns
returns c = triangle_row
