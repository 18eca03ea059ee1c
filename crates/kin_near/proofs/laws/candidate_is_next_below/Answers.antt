use Rattle.kin_near.proofs.WaysDown.{candidate_is_next_below}
use Rattle.kin_near.proofs.laws.candidate_is_next_below.Goals as goal

pub returns : goal.returns
returns c = candidate_is_next_below
