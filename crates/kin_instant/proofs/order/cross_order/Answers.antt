use Rattle.std.proofs.Common.{◌<◌, ◌≤◌, ◌^◌, ℤ, ◌*ℤ◌, unsigned_abs, w64, arith, ap₂, ◌∙◌}
use Rattle.std.specs.Ordering.{int_cmp}
use Rattle.kin_algebra.proofs.Magnitudes.{size-product}
use Rattle.kin_instant.proofs.Widths.{clean, product-raw, product-value}
use Rattle.kin_instant.proofs.order.cross_order.Goals as goal

fits : (x y : ℤ) → unsigned_abs x ≤ 2 ^ 31 → unsigned_abs y ≤ 2 ^ 31 → unsigned_abs (x *ℤ y) < 2 ^ 63
fits x y h k = omega (arith, size-product x y (2 ^ 31) (2 ^ 31) h k)

pub returns : goal.returns
returns c =
    c.cmp.ensures
    ∙ ap₂ int_cmp
    (product-value w64 c.args.n c.args.e c.args.n c.args.e (clean w64 c.args.n c.ranges.n.sfits) (clean w64 c.args.e c.ranges.e.sfits) (fits c.args.n c.args.e c.requires.n_small c.requires.e_small))
    (product-value w64 c.args.m c.args.d c.args.m c.args.d (clean w64 c.args.m c.ranges.m.sfits) (clean w64 c.args.d c.ranges.d.sfits) (fits c.args.m c.args.d c.requires.m_small c.requires.d_small))

pub overflow_mul-n : goal.overflow_mul-n
overflow_mul-n c = product-raw w64 c.args.n c.args.e c.args.n c.args.e (clean w64 c.args.n c.ranges.n.sfits) (clean w64 c.args.e c.ranges.e.sfits) (fits c.args.n c.args.e c.requires.n_small c.requires.e_small)

pub overflow_mul-m : goal.overflow_mul-m
overflow_mul-m c = product-raw w64 c.args.m c.args.d c.args.m c.args.d (clean w64 c.args.m c.ranges.m.sfits) (clean w64 c.args.d c.ranges.d.sfits) (fits c.args.m c.args.d c.requires.m_small c.requires.d_small)
