use Rattle.std.proofs.Common.{sym, ◌∙◌, unsigned_abs, w64}
use Rattle.std.proofs.lemmas.Bool.{eq-eqb, eqb-true, false≢true}
use Rattle.std.proofs.lemmas.Nat.Gcd.{same_from_IsGcd}
use Rattle.kin_instant.proofs.Widths.{clean}
use Rattle.kin_c.proofs.moment.is_lowest.Goals as goal

pub returns-then-is_small-clause-yes : goal.returns-then-is_small-clause-yes
returns-then-is_small-clause-yes c = λ one.
    let n = clean w64 c.args.n c.ranges.n.sfits in
    let d = clean w64 c.args.d c.ranges.d.sfits in
    let small = rw (n, d) at c.is_small.ensures.yes c.if-is_small.true in
    let divisor = rw (c.unsigned_abs.ensures.value, c.unsigned_abs-then-is_small.ensures.value, n, d, eqb-true _ 1 one) at c.gcd.ensures in
    (record { positive = small.0; lowest = divisor }, small.1)

pub returns-then-is_small-clause-no : goal.returns-then-is_small-clause-no
returns-then-is_small-clause-no c = λ other lowest.
    let n = clean w64 c.args.n c.ranges.n.sfits in
    let d = clean w64 c.args.d c.ranges.d.sfits in
    let divisor = rw (c.unsigned_abs.ensures.value, c.unsigned_abs-then-is_small.ensures.value, n, d) at c.gcd.ensures in
    let one = same_from_IsGcd (unsigned_abs c.args.n) (unsigned_abs c.args.d) c.gcd.result 1 divisor lowest.0.lowest in
    absurd (false≢true (sym other ∙ eq-eqb c.gcd.result 1 one))
