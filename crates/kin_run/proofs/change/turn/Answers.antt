use Rattle.std.proofs.Common.{[], Some, inl, inr, refl, sym, ◌∙◌, w32}
use Rattle.kin_legs.specs.Paths.{lasting}
use Rattle.kin_run.proofs.Vocabulary.{err_from_is_err_and, state_of, turns}
use Rattle.kin_instant.proofs.Widths.{clean}
use Rattle.kin_script.specs.declared.refusal.Refusal.TheVariants.{NotWhole, OutOfBounds}
use Rattle.kin_status.proofs.Gathering.{front_nil, gains_nothing}
use Rattle.kin_status.proofs.Performing.{changed}
use Rattle.kin_run.proofs.Changing.{absent, alike_same, may_turn, plan_now, plan_there, refused_turn, turned, turns_there}
use Rattle.kin_run.proofs.change.turn.Goals as goal

pub returns-in_default-clause-performs : goal.returns-in_default-clause-performs
returns-in_default-clause-performs g c = λ journal p. (inl (refl, absent c.args.world.now c.args.no (sym c.motion.ensures.value ∙ c.in_default.is)), refl, refl)

pub returns-in_err-turn-in-Ok-clause-performs : goal.returns-in_err-turn-in-Ok-clause-performs
returns-in_err-turn-in-Ok-clause-performs g c = λ journal p.
    let e = err_from_is_err_and c.from_residual.result c.from_residual.ensures.1 in
    let can = rw (clean w32 c.args.u c.ranges.u.sfits, clean w32 c.args.v c.ranges.v.sfits) at c.in-Ok.ensures.turns in
    rw (e.1, e.2) (may_turn c.requires.whole can journal, record { text = []; gained = gains_nothing p; is = λ text is. front_nil text })

pub returns-in_ok-turn-in-Ok-clause-performs : goal.returns-in_ok-turn-in-Ok-clause-performs
returns-in_ok-turn-in-Ok-clause-performs g c = λ journal p.
    let w = c.args.world.now in
    let n = c.args.no in
    let has = rw (clean w32 c.args.u c.ranges.u.sfits, clean w32 c.args.v c.ranges.v.sfits) at c.in_ok-turn-in-Ok.ensures.turned in
    let can = has.turned in
    changed (state_of journal w) n (turns c.args.u c.args.v) p (may_turn c.requires.whole can journal) (Some (lasting has.motion)) (state_of journal c.turn.new.self)
    (record { old = plan_now w n can.before; new = has.motion; was = plan_there w n can.before can.had; same_place = turns_there c.requires.whole can; is = refl })
    (alike_same _ _ (turned journal n c.args.u c.args.v has))

-- ---- the refusals
pub returns-in-Err-NotWhole-clause-performs : goal.returns-in-Err-NotWhole-clause-performs
returns-in-Err-NotWhole-clause-performs g c = λ journal p.
    let had = sym c.motion.ensures.value ∙ c.in-Some.is in
    let not_whole = (rw (clean w32 c.args.u c.ranges.u.sfits, clean w32 c.args.v c.ranges.v.sfits, c.in-Err-NotWhole.field-0-is) at c.in-Err-NotWhole.ensures.not_whole c.in-Some.field-0 had).0 refl in
    (refused_turn c.args.world.now c.args.no c.requires.whole c.args.u c.args.v c.in-Some.field-0 had NotWhole (inl (refl, not_whole)), refl, refl)

pub returns-in-Err-OutOfBounds-clause-performs : goal.returns-in-Err-OutOfBounds-clause-performs
returns-in-Err-OutOfBounds-clause-performs g c = λ journal p.
    let had = sym c.motion.ensures.value ∙ c.in-Some.is in
    let outside = (rw (clean w32 c.args.u c.ranges.u.sfits, clean w32 c.args.v c.ranges.v.sfits, c.in-Err-OutOfBounds.field-0-is) at c.in-Err-OutOfBounds.ensures.outside c.in-Some.field-0 had).0 refl in
    (refused_turn c.args.world.now c.args.no c.requires.whole c.args.u c.args.v c.in-Some.field-0 had OutOfBounds (inr (refl, outside)), refl, refl)
