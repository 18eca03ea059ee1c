use Rattle.std.proofs.Common.{◌∙◌, arith, refl, sym, subst}
use Rattle.std.proofs.lemmas.Int.{to_z-of_z}
use Rattle.kin_num.specs.Quadratic.{IsSmall}
use Rattle.kin_motion.specs.Forms.{along}
use Rattle.kin_motion.proofs.PolyLaws.{of_parts}
use Rattle.kin_motion.proofs.PolynomialSizes.{along_small}
use Rattle.kin_motion.proofs.poly.along.Goals as goal

-- a direction is short, so that the sum is far below that of two products
pub new-requires : goal.new-requires
new-requires c = record {
  small =
      subst IsSmall (sym (of_parts _ _ _ (along c.args.dx c.args.dy c.args.off c.args.step.x c.args.step.y) refl (grind (arith, to_z-of_z)) (grind (arith, to_z-of_z))))
      (along_small _ _ _ _ _ c.requires.dx_small c.requires.dy_small c.requires.off_small c.requires.x_short c.requires.y_short);
}

pub returns : goal.returns
returns c = c.new.ensures ∙ of_parts _ _ _ _ refl (grind (arith, to_z-of_z)) (grind (arith, to_z-of_z))
