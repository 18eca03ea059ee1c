use Rattle.std.proofs.Common.{rules}
use Rattle.kin_num.proofs.poly.Poly.b.Goals as goal

pub returns-clause-value : goal.returns-clause-value
returns-clause-value c = search rules
