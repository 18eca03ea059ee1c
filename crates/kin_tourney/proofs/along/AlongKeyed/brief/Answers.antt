use Rattle.std.proofs.Common.{rules}
use Rattle.kin_tourney.proofs.along.AlongKeyed.brief.Goals as goal

pub returns : goal.returns
returns c = search rules
