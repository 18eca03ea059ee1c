use Rattle.std.proofs.Common.{◌≡◌, refl, sym, ap, ◌∙◌, subst, Ok, Err, w32}
use Rattle.std.proofs.lemmas.Bool.{both_ways}
use Rattle.kin_instant.proofs.Widths.{clean}
use Rattle.kin_motion.specs.Turning.{just_at}
use Rattle.kin_turn.specs.declared.turned.TurnError.{TurnError}
use Rattle.kin_world.proofs.Vocabulary.{IsEarlier, Moment, OutOfBounds}
use Rattle.kin_world.proofs.Following.{may_follow, too_fast, turns_whole}
use Rattle.kin_world.proofs.planning.following.Goals as goal

pub returns-then-begins_from-clause-planned : goal.returns-then-begins_from-clause-planned
returns-then-begins_from-clause-planned c = λ plan known. (
  λ e. (subst (λ (m : Moment). IsEarlier c.args.now.now (just_at m.at)) c.whole_moment-begins.ensures (c.is_later.ensures.0 c.if-not-is_later.false), (known.from c.args.at).1 (c.begins_from.ensures.0 c.if-begins_from.true)),
  λ h. refl,
)

pub returns-then-begins_from-clause-outside : goal.returns-then-begins_from-clause-outside
returns-then-begins_from-clause-outside c = λ plan known. (λ e. absurd cc, λ far. absurd (far.after ((known.from c.args.at).1 (c.begins_from.ensures.0 c.if-begins_from.true))))

pub unreachable-requires : goal.unreachable-requires
unreachable-requires c =
    let not_whole = rw (clean w32 c.args.u c.ranges.u.sfits, clean w32 c.args.v c.ranges.v.sfits, c.whole_moment-begins.ensures) at c.turned.ensures.not_whole in
    turns_whole c.motion_after.result c.args.at c.args.u c.args.v c.requires.soon (not_whole.0 (c.in-Err-NotWhole.is ∙ ap (λ (e : TurnError). Err e) c.in-Err-NotWhole.field-0-is))

pub returns-in-Ok-clause-may : goal.returns-in-Ok-clause-may
returns-in-Ok-clause-may c = λ plan known.
    let turns = rw (clean w32 c.args.u c.ranges.u.sfits, clean w32 c.args.v c.ranges.v.sfits, c.whole_moment-begins.ensures, c.motion_after.ensures) at c.in-Ok.ensures.turns in
    may_follow known (subst (λ (m : Moment). IsEarlier c.args.now.now (just_at m.at)) c.whole_moment-begins.ensures (c.is_later.ensures.0 c.if-not-is_later.false)) (λ x. both_ways c.begins_from.result c.if-begins_from.false (c.begins_from.ensures.1 x)) c.in-Ok.new turns.1 turns.2

pub returns-in-Ok-clause-past : goal.returns-in-Ok-clause-past
returns-in-Ok-clause-past c = (λ e. absurd cc, λ over. absurd (over (subst (λ (m : Moment). IsEarlier c.args.now.now (just_at m.at)) c.whole_moment-begins.ensures (c.is_later.ensures.0 c.if-not-is_later.false))))

pub returns-in-Ok-clause-planned : goal.returns-in-Ok-clause-planned
returns-in-Ok-clause-planned c = λ plan known. (λ e. absurd cc, λ h. absurd (both_ways c.begins_from.result c.if-begins_from.false (c.begins_from.ensures.1 ((known.from c.args.at).0 h.1))))

pub returns-in-Ok-clause-outside : goal.returns-in-Ok-clause-outside
returns-in-Ok-clause-outside c = λ plan known. (
  λ e. absurd cc,
  λ far.
      let out = rw (clean w32 c.args.u c.ranges.u.sfits, clean w32 c.args.v c.ranges.v.sfits, c.whole_moment-begins.ensures, c.motion_after.ensures) at c.turned.ensures.outside in
      let clash : Ok c.in-Ok.new ≡ Err OutOfBounds = sym c.in-Ok.is ∙ out.1 ((too_fast known (subst (λ (m : Moment). IsEarlier c.args.now.now (just_at m.at)) c.whole_moment-begins.ensures (c.is_later.ensures.0 c.if-not-is_later.false)) (λ x. both_ways c.begins_from.result c.if-begins_from.false (c.begins_from.ensures.1 x))).1 far) in
      absurd cc,
)

pub returns-in-Err-OutOfBounds-clause-past : goal.returns-in-Err-OutOfBounds-clause-past
returns-in-Err-OutOfBounds-clause-past c = (λ e. absurd cc, λ over. absurd (over (subst (λ (m : Moment). IsEarlier c.args.now.now (just_at m.at)) c.whole_moment-begins.ensures (c.is_later.ensures.0 c.if-not-is_later.false))))

pub returns-in-Err-OutOfBounds-clause-planned : goal.returns-in-Err-OutOfBounds-clause-planned
returns-in-Err-OutOfBounds-clause-planned c = λ plan known. (λ e. absurd cc, λ h. absurd (both_ways c.begins_from.result c.if-begins_from.false (c.begins_from.ensures.1 ((known.from c.args.at).0 h.1))))

pub returns-in-Err-OutOfBounds-clause-outside : goal.returns-in-Err-OutOfBounds-clause-outside
returns-in-Err-OutOfBounds-clause-outside c = λ plan known.
    let out = rw (clean w32 c.args.u c.ranges.u.sfits, clean w32 c.args.v c.ranges.v.sfits, c.whole_moment-begins.ensures, c.motion_after.ensures) at c.turned.ensures.outside in
    (λ e. (too_fast known (subst (λ (m : Moment). IsEarlier c.args.now.now (just_at m.at)) c.whole_moment-begins.ensures (c.is_later.ensures.0 c.if-not-is_later.false)) (λ x. both_ways c.begins_from.result c.if-begins_from.false (c.begins_from.ensures.1 x))).0 (out.0 (c.in-Err-OutOfBounds.is ∙ ap (λ (e : TurnError). Err e) c.in-Err-OutOfBounds.field-0-is)), λ far. refl)
