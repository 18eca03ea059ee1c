use Rattle.std.proofs.Common.{◌≡◌, true, false, ℤ, pos, unsigned_abs, arith, w64, ap, ◌∙◌, subst}
use Rattle.std.specs.Prelude.{◌<ℤ◌, ◌≤ℤ◌}
use Rattle.std.proofs.lemmas.Int.{ints}
use lib.Signed.{le_z}
use Rattle.kin_instant.proofs.Widths.{clean}
use Rattle.kin_instant.proofs.Spans.{early_span, span_of_ratio}
use Rattle.kin_instant.proofs.key.span_of_ratio.Goals as goal

not_positive : (x : ℤ) → le_z x (pos 0) ≡ true → x ≤ℤ pos 0
not_positive x e = grind (arith, ints)

positive : (x : ℤ) → le_z x (pos 0) ≡ false → pos 0 <ℤ x
positive x e = grind (arith, ints)

pub returns-then-n-le0 : goal.returns-then-n-le0
returns-then-n-le0 c = early_span c.args.n c.args.d c.requires.d_positive (subst (λ (z : ℤ). z ≤ℤ pos 0) (clean w64 c.args.n c.ranges.n.sfits) (not_positive _ c.if-n-le0.true))

pub returns : goal.returns
returns c =
    let n = clean w64 c.args.n c.ranges.n.sfits in
    let d = clean w64 c.args.d c.ranges.d.sfits in
    span_of_ratio c.args.n c.args.d c.unsigned_abs.result c.unsigned_abs-2.result (subst (λ (z : ℤ). pos 0 <ℤ z) n (positive _ c.if-n-le0.false)) c.requires.d_positive (c.unsigned_abs.ensures.value ∙ ap unsigned_abs n) (c.unsigned_abs-2.ensures.value ∙ ap unsigned_abs d)
