use Rattle.kin_motion.proofs.PolynomialSizes.{polynomials_are_small}
use Rattle.kin_motion.proofs.laws.polynomials_are_small.Goals as goal

pub returns : goal.returns
returns c = polynomials_are_small
