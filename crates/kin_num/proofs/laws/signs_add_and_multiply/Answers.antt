use Rattle.kin_num.proofs.LawProofs.{sums_and_products}
use Rattle.kin_num.proofs.laws.signs_add_and_multiply.Goals as goal

pub returns : goal.returns
returns c = sums_and_products
