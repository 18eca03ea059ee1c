use Rattle.std.proofs.Common.{rules}
use Rattle.kin_overlay.proofs.edit.ChainEdit.carry_out.Goals as goal

pub returns-clause-gone : goal.returns-clause-gone
returns-clause-gone c = search rules
