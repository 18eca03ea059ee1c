use Rattle.std.proofs.Common.{◌∙◌, Err, ap, w32}
use Rattle.kin_instant.proofs.Widths.{clean}
use Rattle.kin_turn.specs.declared.turned.TurnError.{TurnError}
use Rattle.kin_check.proofs.Changing.{fair_plan, not_whole, out_of_bounds, turn_made, turn_sound}
use Rattle.kin_check.proofs.change.turn.Goals as goal

pub motion_at-requires : goal.motion_at-requires
motion_at-requires c = fair_plan c.args.state.now c.requires.sound c.args.no c.in-Some.plan.now c.in-Some.ensures

pub returns-in-Ok-clause-changes : goal.returns-in-Ok-clause-changes
returns-in-Ok-clause-changes c =
    let to = rw (clean w32 c.args.u c.ranges.u.sfits, clean w32 c.args.v c.ranges.v.sfits) at c.in-Ok.ensures.turns in
    turn_made c.args.state.now c.requires.sound c.args.no c.in-Some.plan.now c.in-Some.ensures c.args.u c.args.v c.moment-now.result c.moment-now.ensures c.motion_at.result c.motion_at.ensures
    (record { u_small = c.requires.u_small; v_small = c.requires.v_small }) c.in-Ok.motion to c.put.new.self c.put.ensures

pub returns-in-Ok-clause-sound : goal.returns-in-Ok-clause-sound
returns-in-Ok-clause-sound c =
    let to = rw (clean w32 c.args.u c.ranges.u.sfits, clean w32 c.args.v c.ranges.v.sfits) at c.in-Ok.ensures.turns in
    turn_sound c.args.state.now c.requires.sound c.args.no c.in-Some.plan.now c.in-Some.ensures c.args.u c.args.v c.moment-now.result c.moment-now.ensures c.motion_at.result c.motion_at.ensures
    (record { u_small = c.requires.u_small; v_small = c.requires.v_small }) c.in-Ok.motion to c.put.new.self c.put.ensures

pub returns-in-Err-NotWhole-clause-changes : goal.returns-in-Err-NotWhole-clause-changes
returns-in-Err-NotWhole-clause-changes c =
    let out = rw (clean w32 c.args.u c.ranges.u.sfits, clean w32 c.args.v c.ranges.v.sfits) at c.turned.ensures.not_whole in
    not_whole c.args.state.now c.requires.sound c.args.no c.in-Some.plan.now c.in-Some.ensures c.args.u c.args.v c.moment-now.result c.moment-now.ensures c.motion_at.result c.motion_at.ensures
    (out.0 (c.in-Err-NotWhole.is ∙ ap (λ (e : TurnError). Err e) c.in-Err-NotWhole.field-0-is))

pub returns-in-Err-OutOfBounds-clause-changes : goal.returns-in-Err-OutOfBounds-clause-changes
returns-in-Err-OutOfBounds-clause-changes c =
    let out = rw (clean w32 c.args.u c.ranges.u.sfits, clean w32 c.args.v c.ranges.v.sfits) at c.turned.ensures.outside in
    out_of_bounds c.args.state.now c.requires.sound c.args.no c.in-Some.plan.now c.in-Some.ensures c.args.u c.args.v c.moment-now.result c.moment-now.ensures c.motion_at.result c.motion_at.ensures
    (out.0 (c.in-Err-OutOfBounds.is ∙ ap (λ (e : TurnError). Err e) c.in-Err-OutOfBounds.field-0-is))
