use Rattle.kin_far.proofs.DeterminedDiameters.{diameter_is_determined}
use Rattle.kin_far.proofs.DeterminedSweeps.{sweep_is_determined}
use Rattle.kin_far.proofs.laws.diameter_is_determined.Goals as goal

pub returns-clause-sweep : goal.returns-clause-sweep
returns-clause-sweep c = sweep_is_determined

pub returns-clause-pair : goal.returns-clause-pair
returns-clause-pair c = diameter_is_determined
