use Rattle.kin_rows.proofs.Computed.{closest_fact_rows}
use Rattle.kin_rows.proofs.rows.closest_fact_rows.Goals as goal

pub returns : goal.returns
returns c = closest_fact_rows
