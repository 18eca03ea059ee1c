use Rattle.kin_num.proofs.LawProofs.{moments}
use Rattle.kin_num.proofs.laws.moments_are_ordered.Goals as goal

pub returns : goal.returns
returns c = moments
