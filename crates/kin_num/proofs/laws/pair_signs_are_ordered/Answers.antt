use Rattle.kin_num.proofs.LawProofs.{pair_signs}
use Rattle.kin_num.proofs.laws.pair_signs_are_ordered.Goals as goal

pub returns : goal.returns
returns c = pair_signs
