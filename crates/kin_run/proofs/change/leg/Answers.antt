use Rattle.std.proofs.Common.{[], Some, inl, inr, refl, sym, ◌∙◌, w32}
use Rattle.kin_instant.proofs.Widths.{clean}
use Rattle.kin_legs.specs.Joined.{with_leg}
use Rattle.kin_legs.specs.Paths.{plan_of}
use Rattle.kin_status.proofs.Existence.{allowed_leg}
use Rattle.kin_status.proofs.Gathering.{front_nil, gains_nothing}
use Rattle.kin_status.proofs.Performing.{changed}
use Rattle.kin_run.proofs.Vocabulary.{err_from_is_err_and, schedules, state_of, world_plans}
use Rattle.kin_run.proofs.Changing.{absent, alike_same, plan_now, plan_there, planned}
use Rattle.kin_run.proofs.change.leg.Goals as goal

pub returns-in_default-clause-performs : goal.returns-in_default-clause-performs
returns-in_default-clause-performs c = λ journal p. (inl (refl, absent c.args.world.now c.args.no (sym c.motion.ensures.value ∙ c.in_default.is)), refl, refl)

pub returns-in_err-leg-in-Ok-clause-performs : goal.returns-in_err-leg-in-Ok-clause-performs
returns-in_err-leg-in-Ok-clause-performs c = λ journal p.
    let e = err_from_is_err_and c.from_residual.result c.from_residual.ensures.1 in
    let w = c.args.world.now in
    let can = rw (clean w32 c.args.u c.ranges.u.sfits, clean w32 c.args.v c.ranges.v.sfits) at c.in-Ok.ensures.plans in
    rw (e.1, e.2) (allowed_leg w.moment c.args.at c.args.u c.args.v can.plan (plan_of (world_plans w) c.args.no) can.is c.in-Ok.field-0 can.may, record { text = []; gained = gains_nothing p; is = λ text is. front_nil text })

pub returns-in_ok-leg-in-Ok-clause-performs : goal.returns-in_ok-leg-in-Ok-clause-performs
returns-in_ok-leg-in-Ok-clause-performs c = λ journal p.
    let w = c.args.world.now in
    let n = c.args.no in
    let at = c.args.at in
    let u = c.args.u in
    let v = c.args.v in
    let has = rw (clean w32 u c.ranges.u.sfits, clean w32 v c.ranges.v.sfits) at c.in_ok-leg-in-Ok.ensures.planned in
    let can = has.can in
    changed (state_of journal w) n (schedules at u v) p (allowed_leg w.moment at u v can.plan (plan_of (world_plans w) n) can.is has.motion can.may) (Some (with_leg can.plan (record { from = at; motion = has.motion }))) (state_of journal c.leg.new.self)
    (record { old = can.plan; new = has.motion; was = can.is; follows = can.may; is = refl }) (alike_same _ _ (planned journal n at u v c.requires.whole c.requires.soon has))

-- ---- the refusals
pub returns-in-Err-Past-clause-performs : goal.returns-in-Err-Past-clause-performs
returns-in-Err-Past-clause-performs c = λ journal p.
    let w = c.args.world.now in
    let is = plan_there w c.args.no c.in-Some.field-0 (sym c.motion.ensures.value ∙ c.in-Some.is) in
    let over = (rw c.in-Err-Past.field-0-is at c.in-Err-Past.ensures.past).0 refl in
    (inr (plan_now w c.args.no c.in-Some.field-0, is, inl (refl, over)), refl, refl)

pub returns-in-Err-Planned-clause-performs : goal.returns-in-Err-Planned-clause-performs
returns-in-Err-Planned-clause-performs c = λ journal p.
    let w = c.args.world.now in
    let plan = plan_now w c.args.no c.in-Some.field-0 in
    let is = plan_there w c.args.no c.in-Some.field-0 (sym c.motion.ensures.value ∙ c.in-Some.is) in
    let has = (rw c.in-Err-Planned.field-0-is at c.in-Err-Planned.ensures.planned plan is).0 refl in
    (inr (plan, is, inr (inl (refl, has.0, has.1))), refl, refl)

pub returns-in-Err-OutOfBounds-clause-performs : goal.returns-in-Err-OutOfBounds-clause-performs
returns-in-Err-OutOfBounds-clause-performs c = λ journal p.
    let w = c.args.world.now in
    let plan = plan_now w c.args.no c.in-Some.field-0 in
    let is = plan_there w c.args.no c.in-Some.field-0 (sym c.motion.ensures.value ∙ c.in-Some.is) in
    let fast = (rw (clean w32 c.args.u c.ranges.u.sfits, clean w32 c.args.v c.ranges.v.sfits, c.in-Err-OutOfBounds.field-0-is) at c.in-Err-OutOfBounds.ensures.outside plan is).0 refl in
    (inr (plan, is, inr (inr (refl, fast))), refl, refl)
