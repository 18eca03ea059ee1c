use Rattle.kin_rows.proofs.Asking.{asking_rows}
use Rattle.kin_rows.proofs.rows.asking_rows.Goals as goal

pub returns : goal.returns
returns c = asking_rows
