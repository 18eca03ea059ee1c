use Rattle.std.proofs.Common.{rules}
use Rattle.kin_cert.proofs.names.targets.Goals as goal

pub returns-in-Line : goal.returns-in-Line
returns-in-Line c = search rules
