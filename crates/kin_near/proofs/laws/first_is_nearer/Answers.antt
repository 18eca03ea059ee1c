use Rattle.kin_near.proofs.ThreePoints.{first_is_nearer}
use Rattle.kin_near.proofs.laws.first_is_nearer.Goals as goal

pub returns : goal.returns
returns c = first_is_nearer
