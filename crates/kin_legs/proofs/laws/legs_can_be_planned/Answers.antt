use Rattle.kin_legs.proofs.SchedulingLaws.{one_continues}
use Rattle.kin_legs.proofs.laws.legs_can_be_planned.Goals as goal

pub returns : goal.returns
returns c = one_continues
