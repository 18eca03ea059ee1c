use Rattle.kin_script.proofs.Theorems.{first_outside_is_first}
use Rattle.kin_script.proofs.laws.first_outside_is_first.Goals as goal

pub returns : goal.returns
returns c = first_outside_is_first
