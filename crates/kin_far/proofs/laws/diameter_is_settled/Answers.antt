use Rattle.kin_far.proofs.SettledDiameters.{diameter_is_settled}
use Rattle.kin_far.proofs.laws.diameter_is_settled.Goals as goal

pub returns : goal.returns
returns c = diameter_is_settled
