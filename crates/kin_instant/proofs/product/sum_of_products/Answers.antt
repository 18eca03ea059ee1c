use Rattle.std.proofs.Common.{◌≤◌, ◌+◌, ◌*◌, ◌^◌, unsigned_abs, ℤ, w64, arith, subst, sym, mul-le-mul}
use Rattle.kin_instant.proofs.Widths.{product-fits, sum-size, sum-fits, sum-value}
use Rattle.kin_instant.proofs.product.sum_of_products.Goals as goal

pub overflow_mul-result : goal.overflow_mul-result
overflow_mul-result c = product-fits w64 c.args.a c.args.b (2 ^ 31 * 2 ^ 31) c.ranges.a c.ranges.b (mul-le-mul c.requires.a_small c.requires.b_small) (omega arith)

pub overflow_mul-result-2 : goal.overflow_mul-result-2
overflow_mul-result-2 c = product-fits w64 c.args.c c.args.d (2 ^ 31 * 2 ^ 30) c.ranges.c c.ranges.d (mul-le-mul c.requires.c_small c.requires.d_small) (omega arith)

pub overflow_add-result : goal.overflow_add-result
overflow_add-result c = sum-fits w64 _ _ _ _ _ _ c.ranges.a c.ranges.b c.ranges.c c.ranges.d (mul-le-mul c.requires.a_small c.requires.b_small) (mul-le-mul c.requires.c_small c.requires.d_small) (omega arith)

pub returns-clause-value : goal.returns-clause-value
returns-clause-value c = sum-value w64 _ _ _ _ _ _ c.ranges.a c.ranges.b c.ranges.c c.ranges.d (mul-le-mul c.requires.a_small c.requires.b_small) (mul-le-mul c.requires.c_small c.requires.d_small) (omega arith)

pub returns-clause-size : goal.returns-clause-size
returns-clause-size c =
    subst (λ (z : ℤ). unsigned_abs z ≤ unsigned_abs c.args.a * unsigned_abs c.args.b + unsigned_abs c.args.c * unsigned_abs c.args.d) (sym (returns-clause-value c)) (sum-size w64 _ _ _ _ _ _ c.ranges.a c.ranges.b c.ranges.c c.ranges.d (mul-le-mul c.requires.a_small c.requires.b_small) (mul-le-mul c.requires.c_small c.requires.d_small) (omega arith))
