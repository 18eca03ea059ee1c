use Rattle.kin_legs.proofs.PlanExistence.{planned_failures_exist, planned_blocks_exist, planned_journals_exist}
use Rattle.kin_legs.proofs.laws.planned_journals_exist.Goals as goal

pub returns : goal.returns
returns c = record { failure = planned_failures_exist; block = planned_blocks_exist; journal = planned_journals_exist }
