use Rattle.kin_instant.proofs.Existence.{roots_exist}
use Rattle.kin_instant.proofs.laws.roots_exist.Goals as goal

pub returns : goal.returns
returns c = roots_exist
