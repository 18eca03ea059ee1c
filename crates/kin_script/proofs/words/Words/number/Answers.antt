use Rattle.std.proofs.Common.{rules}
use Rattle.kin_script.specs.Words.{number_at}
use Rattle.kin_script.proofs.words.Words.number.Goals as goal

pub returns : goal.returns
unfolding number_at
returns c = search rules
