use Rattle.std.proofs.Common.{rules}
use Rattle.kin_script.specs.Questions.{keep_of}
use Rattle.kin_script.proofs.line.keep.Goals as goal

pub returns-in_ok-dx-2 : goal.returns-in_ok-dx-2
unfolding keep_of
returns-in_ok-dx-2 c = search rules
