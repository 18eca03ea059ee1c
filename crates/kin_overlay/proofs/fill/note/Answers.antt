use Rattle.std.proofs.Common.{rules}
use Rattle.kin_overlay.proofs.fill.note.Goals as goal

pub returns-clause-noted : goal.returns-clause-noted
returns-clause-noted g c = search rules

pub returns-clause-count : goal.returns-clause-count
returns-clause-count g c = search rules
