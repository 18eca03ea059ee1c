use Rattle.kin_motion.proofs.Proved.{laws_hold}
use Rattle.kin_motion.proofs.laws.real_scenes_have_laws.Goals as goal

pub returns : goal.returns
returns c = laws_hold
