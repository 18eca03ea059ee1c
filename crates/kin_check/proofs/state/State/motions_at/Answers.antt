use Rattle.std.proofs.Common.{arith, ap, sym, ◌∙◌, ◌<◌, ◌+◌, ◌^◌, length, subst}
use Rattle.kin_motion.specs.Plans.{motions_in_force}
use Rattle.kin_legs.specs.Paths.{plan_of}
use Rattle.kin_script.specs.States.{State}
use Rattle.kin_check.proofs.Legs.{plan_got}
use Rattle.kin_check.proofs.Motions.{AreUpTo, all_set, none_yet, one_left, one_set}
use Rattle.kin_check.proofs.state.State.motions_at.Goals as goal
use Rattle.kin_check.proofs.state.State.motions_at.Goals.{in-Some, in_default}

pub motion_at-requires : goal.motion_at-requires
motion_at-requires c =
    let low = c.loop-no-test.true in
    let end = c.len-no-end.ensures in
    let room = c.self.inside.plans.ok.0 in
    let got = plan_got c.self.inside.plans.items c.loop-no.no c.index.result.now (omega (arith, low, end, room)) c.index.ensures in
    (c.requires.paths.each c.loop-no.no c.in-Some.plan (ap (λ (s : State). plan_of s.plans c.loop-no.no) (sym c.self.view_is) ∙ got ∙ c.in-Some.is)).fair

pub loop-no-init : goal.loop-no-init
loop-no-init c =
    none_yet c.self.inside.plans.items c.args.moment.now c.in_ok-motions.motions
    (c.in_ok-motions.ensures.room ∙ ap (λ (s : State). 2 ^ s.size) c.self.view_is ∙ sym c.requires.slots ∙ ap (λ (s : State). length s.plans) (sym c.self.view_is)) c.in_ok-motions.ensures.none

pub loop-no-preserved : goal.loop-no-preserved
loop-no-preserved c =
    let low = c.loop-no-test.true in
    let end = c.len-no-end.ensures in
    let room = c.self.inside.plans.ok.0 in
    let plans = c.self.inside.plans.items in
    let m = c.args.moment.now in
    let i = c.loop-no.no in
    let ms = c.loop-no.motions in
    let below : i < length plans = omega (arith, low, end, room) in
    let got = plan_got plans i c.index.result.now below c.index.ensures in
    elim c.match-index.branch [
      | in-Some w ↦
          subst (AreUpTo plans m (i + 1)) (sym (w.motions-is ∙ w.set.ensures.value)) (one_set plans m i ms w.in-Some.plan w.motion_at.result below (got ∙ w.in-Some.is) w.motion_at.ensures
          c.loop-no.invariant)
      | in_default w ↦ subst (AreUpTo plans m (i + 1)) (sym w.motions-is) (one_left plans m i ms (got ∙ w.in_default.is) c.loop-no.invariant)
    ]

pub returns : goal.returns
returns c =
    let high = c.loop-no-test.false in
    let end = c.len-no-end.ensures in
    let room = c.self.inside.plans.ok.0 in
    all_set c.self.inside.plans.items c.args.moment.now c.loop-no.no c.loop-no.motions (omega (arith, high, end, room)) c.loop-no.invariant
    ∙ ap (λ (s : State). motions_in_force s.plans c.args.moment.now) c.self.view_is
