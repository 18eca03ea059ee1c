use Rattle.std.proofs.Common.{arith, ap, sym, ◌∙◌, ◌+◌, List, drop, cond}
use Rattle.kin_motion.specs.Course.{Course}
use Rattle.kin_motion.specs.Plans.{Leg, last_begun, motion_in_force}
use Rattle.kin_check.proofs.Legs.{motion_all, motion_more}
use Rattle.kin_check.proofs.plan.Plan.motion_at.Goals as goal
use Rattle.kin_check.proofs.plan.Plan.motion_at.Goals.{then-is_begun, else-is_begun}

pub loop-leg-init : goal.loop-leg-init
loop-leg-init c =
    ap (λ (ls : List Leg). last_begun c.self.inside.first ls c.args.moment.now) c.deref-leg-items.ensures.value ∙ ap (motion_in_force c.args.moment.now) c.self.view_is

pub loop-leg-preserved : goal.loop-leg-preserved
loop-leg-preserved c =
    let low = c.loop-leg-test.true in
    let m = c.args.moment.now in
    let i = c.loop-leg.leg-index in
    let legs = c.deref-leg-items.result.now in
    let l = c.leg-item.result in
    let more = motion_more m c.args.self.now legs i l c.loop-leg.motion (omega (arith, low)) c.leg-item.is c.loop-leg.invariant in
    elim c.if-is_begun.branch [
      | then-is_begun w ↦
          ap (λ (d : Course). last_begun d (drop (i + 1) legs) m)
          (w.motion-is ∙ ap (λ (k : Leg). k.motion) c.leg.view_is ∙ sym (ap (λ b. cond b l.motion c.loop-leg.motion) (sym c.is_begun.ensures ∙ w.if-is_begun.true))) ∙ more
      | else-is_begun w ↦
          ap (λ (d : Course). last_begun d (drop (i + 1) legs) m) (w.motion-is ∙ sym (ap (λ b. cond b l.motion c.loop-leg.motion) (sym c.is_begun.ensures ∙ w.if-is_begun.false))) ∙ more
    ]

pub returns : goal.returns
returns c =
    let high = c.loop-leg-test.false in
    motion_all c.args.moment.now c.args.self.now c.deref-leg-items.result.now c.loop-leg.leg-index c.loop-leg.motion (omega (arith, high)) c.loop-leg.invariant
