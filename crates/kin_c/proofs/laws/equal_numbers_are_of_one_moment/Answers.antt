use Rattle.kin_c.proofs.OneMoments.{one_moment}
use Rattle.kin_c.proofs.laws.equal_numbers_are_of_one_moment.Goals as goal

pub returns : goal.returns
returns c = one_moment
