use Rattle.kin_motion.proofs.SweepLaws.{one_sweep}
use Rattle.kin_motion.proofs.DiameterFactLaws.{slots_differ}
use Rattle.kin_motion.proofs.laws.one_sweep.Goals as goal

pub returns-clause-one : goal.returns-clause-one
returns-clause-one c = one_sweep

pub returns-clause-slots : goal.returns-clause-slots
returns-clause-slots c = slots_differ
