use Rattle.std.proofs.Common.{refl, sym, ◌∙◌, w32}
use Rattle.kin_instant.proofs.Widths.{clean}
use Rattle.kin_tracker.proofs.tracker.Tracker.turn.Goals as goal

pub returns-in_default-turn-clause-refused : goal.returns-in_default-turn-clause-refused
returns-in_default-turn-clause-refused c =
    let here = (c.is_whole.ensures.whole c.if-not-is_whole.false).whole in
    let slow = rw (clean w32 c.args.u c.ranges.u.sfits, clean w32 c.args.v c.ranges.v.sfits) at c.is_slow_velocity.ensures.yes c.if-not-is_slow_velocity.false in
    let can = rw (clean w32 c.args.u c.ranges.u.sfits, clean w32 c.args.v c.ranges.v.sfits) at c.in-Ok.ensures.turns in
    rw (sym c.self.view_is) (here, slow, (c.in-Ok.field-0, can))

pub returns-in-Ok-turn-clause-may : goal.returns-in-Ok-turn-clause-may
returns-in-Ok-turn-clause-may c =
    let here = (c.is_whole.ensures.whole c.if-not-is_whole.false).whole in
    let slow = rw (clean w32 c.args.u c.ranges.u.sfits, clean w32 c.args.v c.ranges.v.sfits) at c.is_slow_velocity.ensures.yes c.if-not-is_slow_velocity.false in
    let can = rw (clean w32 c.args.u c.ranges.u.sfits, clean w32 c.args.v c.ranges.v.sfits) at c.in-Ok.ensures.turns in
    rw (sym c.self.view_is) (here, slow, (c.in-Ok.field-0, can))

-- ---- the refusals
pub returns-in-Err-NotWhole-clause-refused : goal.returns-in-Err-NotWhole-clause-refused
returns-in-Err-NotWhole-clause-refused c =
    let here = (c.is_whole.ensures.whole c.if-not-is_whole.false).whole in
    let slow = rw (clean w32 c.args.u c.ranges.u.sfits, clean w32 c.args.v c.ranges.v.sfits) at c.is_slow_velocity.ensures.yes c.if-not-is_slow_velocity.false in
    let had = sym c.motion.ensures.value ∙ c.in-Some.is in
    let not_whole = (rw (clean w32 c.args.u c.ranges.u.sfits, clean w32 c.args.v c.ranges.v.sfits, c.in-Err-NotWhole.field-0-is) at c.in-Err-NotWhole.ensures.not_whole c.in-Some.field-0 had).0 refl in
    rw (sym c.self.view_is) (here, slow, (c.in-Some.field-0, had, not_whole))

pub returns-in-Err-OutOfBounds-clause-refused : goal.returns-in-Err-OutOfBounds-clause-refused
returns-in-Err-OutOfBounds-clause-refused c =
    let here = (c.is_whole.ensures.whole c.if-not-is_whole.false).whole in
    let slow = rw (clean w32 c.args.u c.ranges.u.sfits, clean w32 c.args.v c.ranges.v.sfits) at c.is_slow_velocity.ensures.yes c.if-not-is_slow_velocity.false in
    let had = sym c.motion.ensures.value ∙ c.in-Some.is in
    let outside =
    (rw (clean w32 c.args.u c.ranges.u.sfits, clean w32 c.args.v c.ranges.v.sfits, c.in-Err-OutOfBounds.field-0-is) at c.in-Err-OutOfBounds.ensures.outside c.in-Some.field-0 had).0 refl in
    rw (sym c.self.view_is) (here, slow, (c.in-Some.field-0, had, outside))
