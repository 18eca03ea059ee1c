use Rattle.kin_near.proofs.DeterminedPairs.{closest_is_determined}
use Rattle.kin_near.proofs.laws.closest_is_determined.Goals as goal

pub returns : goal.returns
returns c = closest_is_determined
