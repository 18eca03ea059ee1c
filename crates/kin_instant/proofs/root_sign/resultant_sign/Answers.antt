use Rattle.std.proofs.Common.{rules, arith, mul-le-mul}
use Rattle.std.proofs.lemmas.Int.{to_z-of_z}
use Rattle.kin_instant.proofs.root_sign.resultant_sign.Goals as goal

pub wide_difference_of_products-requires-clause-d_small : goal.wide_difference_of_products-requires-clause-d_small
wide_difference_of_products-requires-clause-d_small c = grind (arith, to_z-of_z, mul-le-mul)

pub wide_difference_of_products-requires-clause-b_small : goal.wide_difference_of_products-requires-clause-b_small
wide_difference_of_products-requires-clause-b_small c = search rules

pub returns : goal.returns
returns c = search rules
