use Rattle.std.proofs.Common.{not, ap, ◌∙◌}
use Rattle.kin_cert.proofs.Tables.{none-of}
use Rattle.kin_cert.proofs.table.Table.is_free.Goals as goal

pub returns : goal.returns
returns c = λ yes. c.sign_of.ensures.none.0 (none-of c.sign_of.result (c.is_none.ensures ∙ ap not yes))
