use Rattle.kin_fail.proofs.FailureRoots.{first_failures_exist}
use Rattle.kin_fail.proofs.laws.first_failures_exist.Goals as goal

pub returns : goal.returns
returns c = first_failures_exist
