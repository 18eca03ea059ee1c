use Rattle.kin_rows.proofs.Computed.{hull_fact_rows}
use Rattle.kin_rows.proofs.rows.hull_fact_rows.Goals as goal

pub returns : goal.returns
returns c = hull_fact_rows
