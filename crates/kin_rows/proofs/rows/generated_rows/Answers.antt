use Rattle.kin_rows.proofs.Computed.{generated_rows}
use Rattle.kin_rows.proofs.rows.generated_rows.Goals as goal

pub returns : goal.returns
returns c = generated_rows
