use Rattle.kin_near.proofs.SettledPairs.{closest_is_settled}
use Rattle.kin_near.proofs.laws.closest_is_settled.Goals as goal

pub returns : goal.returns
returns c = closest_is_settled
