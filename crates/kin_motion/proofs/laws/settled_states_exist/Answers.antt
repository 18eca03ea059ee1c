use Rattle.kin_motion.proofs.HullClaims.{settled_states_exist}
use Rattle.kin_motion.proofs.laws.settled_states_exist.Goals as goal

pub returns : goal.returns
returns c = settled_states_exist
