use Rattle.kin_instant.proofs.NextExistence.{next_roots_exist}
use Rattle.kin_instant.proofs.laws.next_roots_exist.Goals as goal

pub returns : goal.returns
returns c = next_roots_exist
