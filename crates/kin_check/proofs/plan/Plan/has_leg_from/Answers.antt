use Rattle.std.proofs.Common.{◌∙◌, ap, arith, subst, ◌<◌}
use Rattle.kin_motion.specs.Plans.{Leg, Plan}
use Rattle.kin_check.proofs.Legs.{none_from, none_more}
use Rattle.kin_check.proofs.plan.Plan.has_leg_from.Goals as goal

pub loop-leg-preserved : goal.loop-leg-preserved
loop-leg-preserved c =
    let low = c.loop-leg-test.true in
    none_more c.deref-leg-items.result.now c.loop-leg.leg-index c.leg-item.result c.args.at (omega (arith, low)) c.leg-item.is (subst (λ (l : Leg). l.from < c.args.at) c.leg.view_is c.if-at-leg.false)
    c.loop-leg.invariant

pub returns : goal.returns
returns c =
    let high = c.loop-leg-test.false in (
      λ e. absurd cc,
      λ h. absurd (none_from c.args.self.now c.deref-leg-items.result.now c.loop-leg.leg-index c.args.at (c.deref-leg-items.ensures.value ∙ ap (λ (p : Plan). p.legs) c.self.view_is)
          (omega (arith, high)) c.loop-leg.invariant h),
    )
