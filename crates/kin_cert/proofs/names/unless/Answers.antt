use Rattle.std.proofs.Common.{rules}
use Rattle.kin_cert.proofs.names.unless.Goals as goal

pub returns-then-is_named : goal.returns-then-is_named
returns-then-is_named c = search rules
