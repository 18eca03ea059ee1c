use Rattle.std.proofs.Common.{arith, ap, sym, ◌∙◌, List}
use Rattle.std.proofs.lemmas.List.{drop_all}
use Rattle.kin_motion.specs.Plans.{Leg}
use Rattle.kin_legs.specs.Scheduling.{last_motion, motion_after}
use Rattle.kin_check.proofs.Legs.{next_item}
use Rattle.std.proofs.Common.{drop, ◌+◌}
use Rattle.kin_check.proofs.plan.Plan.last_motion.Goals as goal

pub loop-leg-init : goal.loop-leg-init
loop-leg-init c = ap (λ (ls : List Leg). motion_after c.self.inside.first ls) c.deref-leg-items.ensures.value ∙ ap last_motion c.self.view_is

pub loop-leg-preserved : goal.loop-leg-preserved
loop-leg-preserved c =
    let low = c.loop-leg-test.true in
    let i = c.loop-leg.leg-index in
    let legs = c.deref-leg-items.result.now in
    ap (λ (l : Leg). motion_after l.motion (drop (i + 1) legs)) c.leg.view_is
    ∙ ap (λ (ls : List Leg). motion_after c.loop-leg.motion ls) (sym (next_item legs i c.leg-item.result (omega (arith, low)) c.leg-item.is)) ∙ c.loop-leg.invariant

pub returns : goal.returns
returns c =
    let high = c.loop-leg-test.false in
    ap (λ (ls : List Leg). motion_after c.loop-leg.motion ls) (sym (drop_all c.loop-leg.leg-index c.deref-leg-items.result.now (omega (arith, high)))) ∙ c.loop-leg.invariant
