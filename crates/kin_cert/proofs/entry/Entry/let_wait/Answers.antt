use Rattle.std.proofs.Common.{ap}
use Rattle.kin_cert.specs.Layout.{waiting}
use Rattle.kin_cert.proofs.entry.Entry.let_wait.Goals as goal

pub returns : goal.returns
returns c = ap waiting c.self.view_is
