use Rattle.kin_script.proofs.Theorems.{scripts_are_written}
use Rattle.kin_script.proofs.laws.scripts_are_written.Goals as goal

pub returns : goal.returns
returns c = scripts_are_written
