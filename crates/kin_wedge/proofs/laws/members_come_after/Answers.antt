use Rattle.kin_motion.proofs.RealLaws.{real_line_laws}
use Rattle.kin_wedge.proofs.ThirdAfter.{third_after}
use Rattle.kin_wedge.proofs.laws.members_come_after.Goals as goal

pub returns : goal.returns
returns c = λ s w o p q real known other member. third_after s (real_line_laws s real) w o p q known other member
