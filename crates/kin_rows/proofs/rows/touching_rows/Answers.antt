use Rattle.kin_rows.proofs.Computed.{touching_rows}
use Rattle.kin_rows.proofs.rows.touching_rows.Goals as goal

pub returns : goal.returns
returns c = touching_rows
