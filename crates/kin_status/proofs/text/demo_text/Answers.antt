use Rattle.std.proofs.Common.{rules}
use Rattle.kin_status.proofs.text.demo_text.Goals as goal

pub returns : goal.returns
returns c = search rules
