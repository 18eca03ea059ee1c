use Rattle.std.proofs.Common.{rules}
use Rattle.kin_tourney.proofs.along.AlongKeyed.left_wins.Goals as goal

pub returns-in-Zero : goal.returns-in-Zero
returns-in-Zero c = search rules
