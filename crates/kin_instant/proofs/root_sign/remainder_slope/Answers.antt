use Rattle.std.proofs.Common.{w64, ◌∙◌}
use Rattle.kin_instant.proofs.Widths.{clean, same_differences, size-remainder, size-read}
use Rattle.kin_instant.proofs.root_sign.remainder_slope.Goals as goal

pub returns-clause-value : goal.returns-clause-value
returns-clause-value c =
    clean w64 c.difference_of_products.result c.difference_of_products.type_inv ∙ c.difference_of_products.ensures.value
    ∙ same_differences c.args.a c.args.p.now.b c.args.b c.args.p.now.a _ _ _ _ (clean w64 c.args.a c.ranges.a.sfits) (clean w64 c.b.result c.b.type_inv ∙ c.b.ensures.value) (clean w64 c.args.b c.ranges.b.sfits) (clean w64 c.a.result c.a.type_inv ∙ c.a.ensures.value)

pub returns-clause-size : goal.returns-clause-size
returns-clause-size c =
    size-remainder c.args.a c.b.result c.args.b c.a.result c.difference_of_products.result _ (clean w64 c.difference_of_products.result c.difference_of_products.type_inv)
    (size-read c.args.a c.b.result c.args.b c.a.result _ _ _ _ c.difference_of_products.result (clean w64 c.args.a c.ranges.a.sfits) (clean w64 c.b.result c.b.type_inv) (clean w64 c.args.b c.ranges.b.sfits) (clean w64 c.a.result c.a.type_inv) c.difference_of_products.ensures.size)
    c.requires.a_small c.b.ensures.small c.requires.b_small c.a.ensures.small
