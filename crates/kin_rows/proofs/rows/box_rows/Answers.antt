use Rattle.kin_rows.proofs.Computed.{box_rows}
use Rattle.kin_rows.proofs.rows.box_rows.Goals as goal

pub returns : goal.returns
returns c = box_rows
