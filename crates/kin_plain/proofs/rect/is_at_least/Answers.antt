use Rattle.std.proofs.Common.{◌≡◌, ap, ◌∙◌, arith, ◌+ℤ◌, ◌*ℤ◌}
use Rattle.std.proofs.lemmas.Int.{to_z-of_z}
use Rattle.kin_num.specs.Instants.{sign_at}
use Rattle.kin_num.specs.Quadratic.{Quadratic}
use Rattle.kin_motion.specs.Boxes.{is_not_minus}
use Rattle.kin_plain.proofs.Boxes.{side_polynomial}
use Rattle.kin_plain.proofs.rect.is_at_least.Goals as goal

pub returns : goal.returns
returns g c =
    let m = c.of_live-motion.result in
    let slope : c.along-slope.result ≡ c.args.dx *ℤ m.u +ℤ c.args.dy *ℤ m.v = grind (arith, to_z-of_z) in
    let start : c.along-start.result ≡ c.args.dx *ℤ m.x +ℤ c.args.dy *ℤ m.y = grind (arith, to_z-of_z) in
    let ahead =
    c.new-ahead.ensures ∙ side_polynomial c.args.motions.now c.args.no m c.args.dx c.args.dy c.args.off _ _ c.of_live-motion.ensures.motion (grind (arith, to_z-of_z, slope))
    (grind (arith, to_z-of_z, start)) in
    c.is_not_minus.ensures ∙ ap is_not_minus (c.sign_at.ensures.value ∙ ap (λ (p : Quadratic). sign_at p c.args.now.now) ahead)
