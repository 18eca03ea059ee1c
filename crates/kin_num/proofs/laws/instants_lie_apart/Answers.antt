use Rattle.kin_num.proofs.LawProofs.{apart}
use Rattle.kin_num.proofs.laws.instants_lie_apart.Goals as goal

pub returns : goal.returns
returns c = apart
