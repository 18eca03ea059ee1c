use Rattle.kin_rows.proofs.Computed.{change_rows}
use Rattle.kin_rows.proofs.rows.change_rows.Goals as goal

pub returns : goal.returns
returns c = change_rows
