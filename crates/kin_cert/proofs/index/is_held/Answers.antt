use Rattle.std.proofs.Common.{rules}
use Rattle.kin_cert.proofs.index.is_held.Goals as goal

pub returns-in-Some : goal.returns-in-Some
returns-in-Some c = search rules
