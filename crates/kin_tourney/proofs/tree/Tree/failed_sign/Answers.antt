use Rattle.std.proofs.Common.{rules}
use Rattle.kin_tourney.proofs.tree.Tree.failed_sign.Goals as goal

pub returns-else-eq-clause-held : goal.returns-else-eq-clause-held
returns-else-eq-clause-held g c = search rules
