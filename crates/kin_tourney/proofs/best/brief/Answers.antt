use Rattle.std.proofs.Common.{rules}
use Rattle.kin_tourney.proofs.best.brief.Goals as goal

pub returns-in-Some : goal.returns-in-Some
returns-in-Some c = search rules
