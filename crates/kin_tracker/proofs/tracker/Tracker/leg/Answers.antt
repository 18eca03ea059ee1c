use Rattle.std.proofs.Common.{ap, refl, sym, ◌∙◌, is_some, w32}
use Rattle.kin_instant.proofs.Widths.{clean}
use Rattle.kin_tracker.proofs.Plans.{plan_now, plan_there}
use Rattle.kin_tracker.proofs.tracker.Tracker.leg.Goals as goal

pub returns-in_default-leg-clause-refused : goal.returns-in_default-leg-clause-refused
returns-in_default-leg-clause-refused c =
    let here = (c.is_whole.ensures.whole c.if-not-is_whole.false).whole in
    let range = rw (clean w32 c.args.u c.ranges.u.sfits, clean w32 c.args.v c.ranges.v.sfits) at c.is_leg_in_range.ensures.yes c.if-not-is_leg_in_range.false in
    let can = rw (clean w32 c.args.u c.ranges.u.sfits, clean w32 c.args.v c.ranges.v.sfits) at c.in-Ok.ensures.plans in
    rw (sym c.self.view_is) (here, range, (c.in-Ok.field-0, can))

pub returns-in-Ok-leg-clause-may : goal.returns-in-Ok-leg-clause-may
returns-in-Ok-leg-clause-may c =
    let here = (c.is_whole.ensures.whole c.if-not-is_whole.false).whole in
    let range = rw (clean w32 c.args.u c.ranges.u.sfits, clean w32 c.args.v c.ranges.v.sfits) at c.is_leg_in_range.ensures.yes c.if-not-is_leg_in_range.false in
    let can = rw (clean w32 c.args.u c.ranges.u.sfits, clean w32 c.args.v c.ranges.v.sfits) at c.in-Ok.ensures.plans in
    rw (sym c.self.view_is) (here, range, (c.in-Ok.field-0, can))

-- ---- the refusals
pub returns-in-Err-Past-clause-refused : goal.returns-in-Err-Past-clause-refused
returns-in-Err-Past-clause-refused c =
    let here = (c.is_whole.ensures.whole c.if-not-is_whole.false).whole in
    let range = rw (clean w32 c.args.u c.ranges.u.sfits, clean w32 c.args.v c.ranges.v.sfits) at c.is_leg_in_range.ensures.yes c.if-not-is_leg_in_range.false in
    let live = ap is_some (sym c.motion.ensures.value ∙ c.in-Some.is) in
    let over = (rw c.in-Err-Past.field-0-is at c.in-Err-Past.ensures.past).0 refl in
    rw (sym c.self.view_is) (here, range, live, over)

pub returns-in-Err-Planned-clause-refused : goal.returns-in-Err-Planned-clause-refused
returns-in-Err-Planned-clause-refused c =
    let w = c.self.inside.world in
    let here = (c.is_whole.ensures.whole c.if-not-is_whole.false).whole in
    let range = rw (clean w32 c.args.u c.ranges.u.sfits, clean w32 c.args.v c.ranges.v.sfits) at c.is_leg_in_range.ensures.yes c.if-not-is_leg_in_range.false in
    let plan = plan_now w c.args.no c.in-Some.field-0 in
    let is = plan_there w c.args.no c.in-Some.field-0 (sym c.motion.ensures.value ∙ c.in-Some.is) in
    let has = (rw c.in-Err-Planned.field-0-is at c.in-Err-Planned.ensures.planned plan is).0 refl in
    rw (sym c.self.view_is) (here, range, (plan, is, has.0, has.1))

pub returns-in-Err-OutOfBounds-clause-refused : goal.returns-in-Err-OutOfBounds-clause-refused
returns-in-Err-OutOfBounds-clause-refused c =
    let w = c.self.inside.world in
    let here = (c.is_whole.ensures.whole c.if-not-is_whole.false).whole in
    let range = rw (clean w32 c.args.u c.ranges.u.sfits, clean w32 c.args.v c.ranges.v.sfits) at c.is_leg_in_range.ensures.yes c.if-not-is_leg_in_range.false in
    let plan = plan_now w c.args.no c.in-Some.field-0 in
    let is = plan_there w c.args.no c.in-Some.field-0 (sym c.motion.ensures.value ∙ c.in-Some.is) in
    let fast = (rw (clean w32 c.args.u c.ranges.u.sfits, clean w32 c.args.v c.ranges.v.sfits, c.in-Err-OutOfBounds.field-0-is) at c.in-Err-OutOfBounds.ensures.outside plan is).0 refl in
    rw (sym c.self.view_is) (here, range, (plan, is, fast))
