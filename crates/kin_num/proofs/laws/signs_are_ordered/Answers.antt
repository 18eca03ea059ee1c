use Rattle.kin_num.proofs.LawProofs.{signs}
use Rattle.kin_num.proofs.laws.signs_are_ordered.Goals as goal

pub returns : goal.returns
returns c = signs
