use Rattle.kin_chain.proofs.HullDetermined.{hull_is_determined}
use Rattle.kin_chain.proofs.laws.hull_is_determined.Goals as goal

pub returns : goal.returns
returns c = hull_is_determined
