use Rattle.std.proofs.Common.{◌≡◌, Some, refl, subst, w64}
use Rattle.kin_num.specs.Quadratic.{Quadratic, quadratic}
use Rattle.kin_instant.proofs.Widths.{clean}
use Rattle.kin_instant.specs.Sides.{IsRootOn}
use Rattle.kin_tracker.proofs.numbers.root.Goals as goal

pub returns-in-Some-clause-found : goal.returns-in-Some-clause-found
returns-in-Some-clause-found c =
    let a = c.args.a in
    let b = c.args.b in
    let k = c.args.c in
    let same : c.new.result ≡ quadratic a b k = rw (clean w64 a c.ranges.a.sfits, clean w64 b c.ranges.b.sfits, clean w64 k c.ranges.c.sfits) at c.new.ensures in
    rw c.itself.ensures (record { root = subst (λ (p : Quadratic). IsRootOn p c.args.upper (Some c.in-Some.root)) same c.in-Some.ensures; at = refl })
