use Rattle.kin_num.proofs.LawProofs.{instants}
use Rattle.kin_num.proofs.laws.instants_are_ordered.Goals as goal

pub returns : goal.returns
returns c = instants
