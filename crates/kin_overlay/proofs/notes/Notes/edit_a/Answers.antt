use Rattle.std.proofs.Common.{rules}
use Rattle.kin_overlay.proofs.notes.Notes.edit_a.Goals as goal

pub returns-clause-put : goal.returns-clause-put
returns-clause-put c = search rules

pub returns-clause-put_b : goal.returns-clause-put_b
returns-clause-put_b c = search rules
