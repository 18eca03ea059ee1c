use Rattle.std.proofs.lemmas.Nat.Gcd.{IsGcd-from_mod}
use Rattle.kin_num.proofs.divisor.+long_gcd.Goals as goal

pub returns-else-y-eq0 : goal.returns-else-y-eq0
returns-else-y-eq0 t c = IsGcd-from_mod c.args.x c.args.y c.long_gcd.result c.long_gcd.ensures
