use Rattle.std.proofs.Common.{rules}
use Rattle.kin_cert.proofs.names.aim_each.Goals as goal

pub returns : goal.returns
returns c = search rules
