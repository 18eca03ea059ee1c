use Rattle.kin_motion.proofs.ClaimLaws.{wrong_rect_is_empty}
use Rattle.kin_motion.proofs.laws.wrong_rect_is_empty.Goals as goal

pub returns : goal.returns
returns c = wrong_rect_is_empty
