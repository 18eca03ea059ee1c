use Rattle.std.proofs.Common.{◌∙◌, arith}
use Rattle.std.proofs.lemmas.Int.{to_z-of_z}
use Rattle.kin_motion.proofs.PolyLaws.{of_parts}
use Rattle.kin_motion.proofs.poly.difference_of_lengths.Goals as goal

pub returns : goal.returns
returns c = c.new.ensures ∙ of_parts _ _ _ _ (grind (arith, to_z-of_z)) (grind (arith, to_z-of_z)) (grind (arith, to_z-of_z))
