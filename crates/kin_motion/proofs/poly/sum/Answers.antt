use Rattle.std.proofs.Common.{◌∙◌, arith, sym, subst}
use Rattle.std.proofs.lemmas.Int.{to_z-of_z}
use Rattle.kin_motion.specs.Sizes.{IsWithin, sum_limit}
use Rattle.kin_motion.proofs.PolyLaws.{of_parts, within_plus}
use Rattle.kin_motion.proofs.poly.sum.Goals as goal

pub returns-clause-value : goal.returns-clause-value
returns-clause-value c = c.new.ensures ∙ of_parts _ _ _ _ (grind (arith, to_z-of_z)) (grind (arith, to_z-of_z)) (grind (arith, to_z-of_z))

pub returns-clause-size : goal.returns-clause-size
returns-clause-size c = subst (IsWithin sum_limit) (sym (returns-clause-value c)) (within_plus _ _ _ c.requires.p_small c.requires.q_small)
