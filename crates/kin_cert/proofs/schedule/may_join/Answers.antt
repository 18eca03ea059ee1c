use Rattle.std.proofs.Common.{inr}
use Rattle.kin_cert.proofs.schedule.may_join.Goals as goal

pub returns-else-is_empty-clause-same : goal.returns-else-is_empty-clause-same
returns-else-is_empty-clause-same c = λ yes. inr (c.is_same_instant.ensures.0 yes)
