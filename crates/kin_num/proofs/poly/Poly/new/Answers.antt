use Rattle.std.proofs.Common.{rules}
use Rattle.kin_num.proofs.poly.Poly.new.Goals as goal

pub returns : goal.returns
returns c = search rules
