use Rattle.std.proofs.Common.{inr, refl, sym, subst}
use Rattle.kin_num.specs.Order.{IsEarlier}
use Rattle.kin_motion.specs.Turning.{just_at}
use Rattle.kin_check.specs.Sound.{IsSound}
use Rattle.kin_check.proofs.Performing.{gone_to, sound_at}
use Rattle.kin_check.proofs.perform.go_to.Goals as goal

pub returns-then-is_before-clause-performs : goal.returns-then-is_before-clause-performs
returns-then-is_before-clause-performs g c = λ upper p named. (inr (refl, (c.args.asked, named, subst (IsEarlier (just_at c.args.asked)) c.moment.ensures (c.if-is_before.ensures.0 refl))), refl)

pub returns-clause-performs : goal.returns-clause-performs
returns-clause-performs g c = λ upper p named.
    let later : ¬ (IsEarlier (just_at c.args.asked) c.args.state.now.moment) = λ h. let t = c.if-is_before.ensures.1 (subst (IsEarlier (just_at c.args.asked)) (sym c.moment.ensures) h) in cc in
    gone_to c.args.state.now upper p c.args.asked named later c.in_ok-agrees.agrees c.args.claim.now c.take_journal.new.claim c.go.new.self c.go.ensures c.in_ok-agrees.ensures

pub returns-clause-sound : goal.returns-clause-sound
returns-clause-sound g c = subst IsSound (sym c.go.ensures) (sound_at c.args.state.now (just_at c.args.asked) c.requires.sound c.requires.canonical)
