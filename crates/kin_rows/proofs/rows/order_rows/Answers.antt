use Rattle.kin_rows.proofs.Computed.{order_rows}
use Rattle.kin_rows.proofs.rows.order_rows.Goals as goal

pub returns : goal.returns
returns c = order_rows
