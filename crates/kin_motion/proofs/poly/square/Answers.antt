use Rattle.std.proofs.Common.{sym, subst, ap₂, ◌∙◌}
use Rattle.kin_num.specs.Quadratic.{quadratic_sum}
use Rattle.kin_motion.specs.Sizes.{IsLengthWithin, sum_limit}
use Rattle.kin_motion.proofs.PolynomialSizes.{length_within}
use Rattle.kin_motion.proofs.poly.square.Goals as goal

pub returns-clause-size : goal.returns-clause-size
returns-clause-size c =
    subst (IsLengthWithin sum_limit) (sym (c.sum.ensures.value ∙ ap₂ quadratic_sum c.product.ensures.value c.product-2.ensures.value))
    (length_within c.args.step.x c.args.step.y c.requires.x_short c.requires.y_short)
