use Rattle.std.proofs.Common.{rules}
use Rattle.kin_script.proofs.read.Draft.is_in_header.Goals as goal

pub returns : goal.returns
returns c = search rules
