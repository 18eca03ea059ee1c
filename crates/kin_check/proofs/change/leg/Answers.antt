use Rattle.std.proofs.Common.{◌∙◌, refl, sym, Err, Some, ap, subst, w32, slice_set}
use Rattle.kin_instant.proofs.Widths.{clean}
use Rattle.kin_num.specs.declared.instant.Moment.{Moment}
use Rattle.kin_num.specs.declared.instant.Shape.{Shape}
use Rattle.kin_num.specs.Order.{IsEarlier}
use Rattle.kin_motion.specs.Course.{Course}
use Rattle.kin_motion.specs.Plans.{Leg}
use Rattle.kin_motion.specs.Turning.{IsNotWhole, IsOutOfBounds, TurnsTo, just_at}
use Rattle.kin_turn.specs.declared.turned.TurnError.{TurnError}
use Rattle.kin_legs.specs.Joined.{with_leg}
use Rattle.kin_legs.specs.Paths.{whole}
use Rattle.kin_check.proofs.Changing.{leg_made, leg_sound, past, planned, too_fast, turns_whole}
use Rattle.kin_check.proofs.change.leg.Goals as goal

pub returns-then-not-is_after-clause-changes : goal.returns-then-not-is_after-clause-changes
returns-then-not-is_after-clause-changes c =
    let s = c.args.state.now in
    past s c.requires.sound c.args.no c.in-Some.plan.now c.in-Some.ensures c.args.at c.args.u c.args.v
    (λ ahead.
    let t =
    c.if-not-is_after.ensures.1 (subst (λ (w : Shape). IsEarlier c.moment.result (just_at w)) (sym c.whole.ensures)
    (subst (λ (m : Moment). IsEarlier m (just_at (whole c.args.at))) (sym c.moment.ensures) ahead)) in
    cc)

pub returns-then-has_leg_from-clause-changes : goal.returns-then-has_leg_from-clause-changes
returns-then-has_leg_from-clause-changes c =
    let s = c.args.state.now in
    let ahead =
    subst (λ (m : Moment). IsEarlier m (just_at (whole c.args.at))) c.moment.ensures (subst (λ (w : Shape). IsEarlier c.moment.result (just_at w)) c.whole.ensures
    (c.if-not-is_after.ensures.0 refl)) in
    planned s c.requires.sound c.args.no c.in-Some.plan.now c.in-Some.ensures c.args.at c.args.u c.args.v ahead (c.if-has_leg_from.ensures.0 refl)

pub unreachable-requires : goal.unreachable-requires
unreachable-requires c =
    let out = rw (clean w32 c.args.u c.ranges.u.sfits, clean w32 c.args.v c.ranges.v.sfits) at c.turned.ensures.not_whole in
    turns_whole c.last_motion.result c.args.at c.args.u c.args.v c.requires.soon
    (subst (λ (w : Shape). IsNotWhole (just_at w) c.args.u c.args.v c.last_motion.result) c.whole-2.ensures (out.0 (c.in-Err-NotWhole.is ∙ ap (λ (e : TurnError). Err e) c.in-Err-NotWhole.field-0-is)))

pub returns-in_ok-put_leg-in-Ok-clause-changes : goal.returns-in_ok-put_leg-in-Ok-clause-changes
returns-in_ok-put_leg-in-Ok-clause-changes c =
    let s = c.args.state.now in
    let plan = c.in-Some.plan.now in
    let ahead =
    subst (λ (m : Moment). IsEarlier m (just_at (whole c.args.at))) c.moment.ensures (subst (λ (w : Shape). IsEarlier c.moment.result (just_at w)) c.whole.ensures
    (c.if-not-is_after.ensures.0 refl)) in
    let to = rw (clean w32 c.args.u c.ranges.u.sfits, clean w32 c.args.v c.ranges.v.sfits) at c.in-Ok.ensures.turns in
    let goes =
    subst (λ (d : Course). TurnsTo (whole c.args.at) c.args.u c.args.v d c.in-Ok.motion) c.last_motion.ensures
    (subst (λ (w : Shape). TurnsTo w c.args.u c.args.v c.last_motion.result c.in-Ok.motion) c.whole-2.ensures to.1) in
    let then = c.in_ok-put_leg-in-Ok.ensures plan c.in-Some.ensures ∙ ap (λ (l : Leg). record s { plans = slice_set s.plans c.args.no (Some (with_leg plan l)) }) c.new.ensures in
    leg_made s c.requires.sound c.args.no plan c.in-Some.ensures c.args.at c.args.u c.args.v ahead (λ h. let t = c.if-has_leg_from.ensures.1 h in cc) c.requires.soon
    (record { u_small = c.requires.u_small; v_small = c.requires.v_small }) c.in-Ok.motion goes to.2 c.put_leg.new.self then

pub returns-in_ok-put_leg-in-Ok-clause-sound : goal.returns-in_ok-put_leg-in-Ok-clause-sound
returns-in_ok-put_leg-in-Ok-clause-sound c =
    let s = c.args.state.now in
    let plan = c.in-Some.plan.now in
    let ahead =
    subst (λ (m : Moment). IsEarlier m (just_at (whole c.args.at))) c.moment.ensures (subst (λ (w : Shape). IsEarlier c.moment.result (just_at w)) c.whole.ensures
    (c.if-not-is_after.ensures.0 refl)) in
    let to = rw (clean w32 c.args.u c.ranges.u.sfits, clean w32 c.args.v c.ranges.v.sfits) at c.in-Ok.ensures.turns in
    let goes =
    subst (λ (d : Course). TurnsTo (whole c.args.at) c.args.u c.args.v d c.in-Ok.motion) c.last_motion.ensures
    (subst (λ (w : Shape). TurnsTo w c.args.u c.args.v c.last_motion.result c.in-Ok.motion) c.whole-2.ensures to.1) in
    let then = c.in_ok-put_leg-in-Ok.ensures plan c.in-Some.ensures ∙ ap (λ (l : Leg). record s { plans = slice_set s.plans c.args.no (Some (with_leg plan l)) }) c.new.ensures in
    leg_sound s c.requires.sound c.args.no plan c.in-Some.ensures c.args.at c.args.u c.args.v ahead (λ h. let t = c.if-has_leg_from.ensures.1 h in cc) c.requires.soon
    (record { u_small = c.requires.u_small; v_small = c.requires.v_small }) c.in-Ok.motion goes to.2 c.put_leg.new.self then

pub returns-in-Err-OutOfBounds-clause-changes : goal.returns-in-Err-OutOfBounds-clause-changes
returns-in-Err-OutOfBounds-clause-changes c =
    let s = c.args.state.now in
    let plan = c.in-Some.plan.now in
    let ahead =
    subst (λ (m : Moment). IsEarlier m (just_at (whole c.args.at))) c.moment.ensures (subst (λ (w : Shape). IsEarlier c.moment.result (just_at w)) c.whole.ensures
    (c.if-not-is_after.ensures.0 refl)) in
    let out = rw (clean w32 c.args.u c.ranges.u.sfits, clean w32 c.args.v c.ranges.v.sfits) at c.turned.ensures.outside in
    too_fast s c.requires.sound c.args.no plan c.in-Some.ensures c.args.at c.args.u c.args.v ahead (λ h. let t = c.if-has_leg_from.ensures.1 h in cc)
    (subst (λ (d : Course). IsOutOfBounds (just_at (whole c.args.at)) c.args.u c.args.v d) c.last_motion.ensures
    (subst (λ (w : Shape). IsOutOfBounds (just_at w) c.args.u c.args.v c.last_motion.result) c.whole-2.ensures
    (out.0 (c.in-Err-OutOfBounds.is ∙ ap (λ (e : TurnError). Err e) c.in-Err-OutOfBounds.field-0-is))))
