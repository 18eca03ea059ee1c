use Rattle.std.proofs.Common.{rules}
use Rattle.kin_cert.proofs.entry.Entry.is_of.Goals as goal

pub returns-then-self-part : goal.returns-then-self-part
returns-then-self-part c = search rules
