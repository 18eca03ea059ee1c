use Rattle.std.proofs.Common.{ℕ, sym, subst}
use Rattle.std.specs.Int.{IsGcd}
use Rattle.kin_num.proofs.divisor.gcd.Goals as goal

pub returns-then-y-lt-LONG : goal.returns-then-y-lt-LONG
returns-then-y-lt-LONG c = subst (λ (g : ℕ). IsGcd c.args.x c.args.y g) (sym c.from.ensures) c.short_gcd.ensures
