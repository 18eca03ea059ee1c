use Rattle.kin_motion.proofs.ClaimLaws.{chain_is_strict, chain_has_least}
use Rattle.kin_motion.proofs.HullClaims.{hull_is_strict, hull_has_least}
use Rattle.kin_motion.proofs.laws.hulls_are_strict.Goals as goal

pub returns-clause-strict : goal.returns-clause-strict
returns-clause-strict c = hull_is_strict

pub returns-clause-least : goal.returns-clause-least
returns-clause-least c = hull_has_least

pub returns-clause-strict_chain : goal.returns-clause-strict_chain
returns-clause-strict_chain c = chain_is_strict

pub returns-clause-least_chain : goal.returns-clause-least_chain
returns-clause-least_chain c = chain_has_least
