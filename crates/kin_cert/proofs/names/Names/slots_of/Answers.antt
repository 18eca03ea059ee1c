use Rattle.std.proofs.Common.{rules}
use Rattle.kin_cert.proofs.names.Names.slots_of.Goals as goal

pub returns : goal.returns
returns c = search rules
