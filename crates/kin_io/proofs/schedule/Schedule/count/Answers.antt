use Rattle.std.proofs.Common.{rules}
use Rattle.kin_io.proofs.schedule.Schedule.count.Goals as goal

pub returns-then-failed-clause-after : goal.returns-then-failed-clause-after
returns-then-failed-clause-after c = search rules

pub returns-else-failed-clause-after : goal.returns-else-failed-clause-after
returns-else-failed-clause-after c = search rules
