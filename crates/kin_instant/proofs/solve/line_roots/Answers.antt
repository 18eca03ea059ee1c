use Rattle.std.proofs.Common.{◌≤◌, ◌^◌, ℤ, pos, unsigned_abs, w64, of_z, arith, ap, subst}
use Rattle.std.specs.Prelude.{◌<ℤ◌}
use lib.IntN.{neg_ℤ}
use Rattle.kin_algebra.proofs.Magnitudes.{negative-some}
use Rattle.kin_num.proofs.Near.{size_negative}
use Rattle.kin_instant.proofs.Widths.{clean, less_out, not_less_out, nothing_out, level_out, opposite-value}
use Rattle.kin_instant.proofs.RootsOf.{rising_line, falling_line, zero_everywhere, zero_nowhere, fraction_read}
use Rattle.kin_instant.proofs.RationalRoots.{line_small}
use Rattle.kin_instant.proofs.solve.line_roots.Goals as goal

opposite_most : (z : ℤ) → unsigned_abs z ≤ 2 ^ 31 → unsigned_abs (neg_ℤ z) ≤ 2 ^ 31
opposite_most z h = omega (arith, size_negative z, h)

c_most : (z : ℤ) → unsigned_abs z ≤ 2 ^ 29 → unsigned_abs z ≤ 2 ^ 31
c_most z h = omega (arith, h)

pub reduced-requires-clause-small : goal.reduced-requires-clause-small
reduced-requires-clause-small c =
    let b = clean w64 c.args.b c.ranges.b.sfits in
    let most = c_most c.args.c c.requires.c_small in
    rw (opposite-value c.args.c most, b)
    (line_small (neg_ℤ c.args.c) c.args.b (subst (λ (x : ℤ). pos 0 <ℤ x) b (less_out _ _ c.if-b-gt0.true)) (opposite_most c.args.c most) c.requires.b_small)

pub reduced-requires-then-b-lt0-clause-small : goal.reduced-requires-then-b-lt0-clause-small
reduced-requires-then-b-lt0-clause-small c =
    let down = subst (λ (x : ℤ). x <ℤ pos 0) (clean w64 c.args.b c.ranges.b.sfits) (less_out _ _ c.if-b-lt0.true) in
    rw (clean w64 c.args.c c.ranges.c.sfits, opposite-value c.args.b c.requires.b_small)
    (line_small c.args.c (neg_ℤ c.args.b) (negative-some c.args.b down) (c_most c.args.c c.requires.c_small) (opposite_most c.args.b c.requires.b_small))

pub returns-then-b-gt0 : goal.returns-then-b-gt0
returns-then-b-gt0 c =
    let b = clean w64 c.args.b c.ranges.b.sfits in
    let up = subst (λ (x : ℤ). pos 0 <ℤ x) b (less_out _ _ c.if-b-gt0.true) in
    let turned = opposite-value c.args.c (c_most c.args.c c.requires.c_small) in
    rising_line c.args.b c.args.c up c.reduced.result (fraction_read (neg_ℤ c.args.c) c.args.b _ _ c.reduced.result turned b c.reduced.ensures.value) c.reduced.ensures.canonical

pub returns-then-b-lt0 : goal.returns-then-b-lt0
returns-then-b-lt0 c =
    let down = subst (λ (x : ℤ). x <ℤ pos 0) (clean w64 c.args.b c.ranges.b.sfits) (less_out _ _ c.if-b-lt0.true) in
    let root = c.reduced-then-b-lt0.result in
    let turned = opposite-value c.args.b c.requires.b_small in
    falling_line c.args.b c.args.c down root
    (fraction_read c.args.c (neg_ℤ c.args.b) _ _ root (clean w64 c.args.c c.ranges.c.sfits) turned c.reduced-then-b-lt0.ensures.value) c.reduced-then-b-lt0.ensures.canonical

pub returns-then-c-eq0 : goal.returns-then-c-eq0
returns-then-c-eq0 c = zero_everywhere c.args.b c.args.c (level_out c.args.b _ (clean w64 c.args.b c.ranges.b.sfits) (not_less_out _ _ c.if-b-lt0.false) (not_less_out _ _ c.if-b-gt0.false)) (nothing_out c.args.c c.ranges.c c.if-c-eq0.true)

pub returns-else-c-eq0 : goal.returns-else-c-eq0
returns-else-c-eq0 c = zero_nowhere c.args.b c.args.c (level_out c.args.b _ (clean w64 c.args.b c.ranges.b.sfits) (not_less_out _ _ c.if-b-lt0.false) (not_less_out _ _ c.if-b-gt0.false)) (λ e. c.if-c-eq0.false (ap (of_z w64) e))
