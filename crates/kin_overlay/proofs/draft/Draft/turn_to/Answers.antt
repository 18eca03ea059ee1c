use Rattle.std.proofs.Common.{rules}
use Rattle.kin_overlay.proofs.draft.Draft.turn_to.Goals as goal

pub returns-clause-some : goal.returns-clause-some
returns-clause-some c = search rules

pub returns-clause-some_known : goal.returns-clause-some_known
returns-clause-some_known c = search rules
