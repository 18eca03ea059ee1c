use Rattle.std.proofs.Common.{◌≡◌, ap, ap₂, ◌∙◌, subst, arith, ℤ, ◌+ℤ◌, ◌*ℤ◌}
use Rattle.std.proofs.lemmas.Int.{to_z-of_z}
use Rattle.kin_num.specs.Instants.{sign_at}
use Rattle.kin_num.specs.Quadratic.{Quadratic}
use Rattle.kin_motion.specs.Boxes.{is_not_minus}
use Rattle.kin_range.specs.Sides.{Side, is_within}
use Rattle.kin_range.proofs.Spans.{side_polynomial}
use Rattle.kin_range.proofs.side.Side.has.Goals as goal

pub returns : goal.returns
returns g c =
    let s = c.self.inside in
    let m = c.of_live-motion.result in
    let slope : c.along-slope.result ≡ s.dx *ℤ m.u +ℤ s.dy *ℤ m.v = grind (arith, to_z-of_z) in
    let start : c.along-start.result ≡ s.dx *ℤ m.x +ℤ s.dy *ℤ m.y = grind (arith, to_z-of_z) in
    let ahead = c.new-ahead.ensures ∙ side_polynomial c.args.motions.now c.args.no m s.dx s.dy s.off _ _ c.of_live-motion.ensures.motion (grind (arith, to_z-of_z, slope)) (grind (arith, to_z-of_z, start)) in
    subst (λ (side : Side). c.is_not_minus.result ≡ is_within c.args.motions.now c.args.now.now side c.args.no) c.self.view_is
    (c.is_not_minus.ensures ∙ ap is_not_minus (c.sign_at.ensures.value ∙ ap (λ (p : Quadratic). sign_at p c.args.now.now) ahead))
