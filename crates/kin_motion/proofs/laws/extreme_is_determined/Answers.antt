use Rattle.kin_motion.proofs.DeterminedExtremes.{extreme_is_determined}
use Rattle.kin_motion.proofs.laws.extreme_is_determined.Goals as goal

pub returns : goal.returns
returns c = extreme_is_determined
