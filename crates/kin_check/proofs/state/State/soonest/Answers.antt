use Rattle.std.proofs.Common.{arith, ap, sym, ◌∙◌, ◌+◌, subst, List, Option, take}
use Rattle.std.proofs.lemmas.List.{take_all}
use Rattle.kin_motion.specs.Plans.{Plan}
use Rattle.kin_legs.specs.Paths.{plan_of}
use Rattle.kin_script.specs.States.{State}
use Rattle.kin_check.specs.Beginnings.{IsSoonest, all_legs}
use Rattle.kin_check.proofs.Legs.{more_plans, plan_got, same_plans}
use Rattle.kin_check.proofs.state.State.soonest.Goals as goal
use Rattle.kin_check.proofs.state.State.soonest.Goals.{in-Some, in_default}

pub soonest-soonest-requires : goal.soonest-soonest-requires
soonest-soonest-requires c =
    let low = c.loop-plan-test.true in
    let got = plan_got c.deref-plan-items.result.now c.loop-plan.plan-index c.plan-item.result (omega (arith, low)) c.plan-item.is in
    let same =
    ap (λ (s : State). plan_of s.plans c.loop-plan.plan-index) (sym c.self.view_is)
    ∙ ap (λ (plans : List (Option Plan)). plan_of plans c.loop-plan.plan-index) (sym c.deref-plan-items.ensures.value) in
    (c.requires.each c.loop-plan.plan-index c.in-Some.plan (same ∙ got ∙ c.in-Some.is)).fair

pub loop-plan-preserved : goal.loop-plan-preserved
loop-plan-preserved c =
    let low = c.loop-plan-test.true in
    let m = c.args.moment.now in
    let plans = c.deref-plan-items.result.now in
    let i = c.loop-plan.plan-index in
    elim c.match-plan.branch [
      | in-Some w ↦
          subst (IsSoonest m (all_legs (take (i + 1) plans))) (sym w.soonest-is)
          (more_plans m plans i c.plan-item.result w.in-Some.plan w.soonest-soonest.result (omega (arith, low)) c.plan-item.is w.in-Some.is
          (w.soonest-soonest.ensures (all_legs (take i plans)) c.loop-plan.invariant))
      | in_default w ↦
          subst (IsSoonest m (all_legs (take (i + 1) plans))) (sym w.soonest-is)
          (same_plans m plans i c.plan-item.result c.loop-plan.soonest (omega (arith, low)) c.plan-item.is w.in_default.is c.loop-plan.invariant)
    ]

pub returns : goal.returns
returns c =
    let high = c.loop-plan-test.false in
    subst (λ (plans : List (Option Plan)). IsSoonest c.args.moment.now (all_legs plans) c.loop-plan.soonest)
    (take_all c.loop-plan.plan-index c.deref-plan-items.result.now (omega (arith, high)) ∙ c.deref-plan-items.ensures.value ∙ ap (λ (s : State). s.plans) c.self.view_is) c.loop-plan.invariant
