use Rattle.std.proofs.Common.{refl, sym, subst, inr}
use Rattle.kin_run.proofs.Vocabulary.{err_from_is_err_and, IsEarlier, just_at, state_of, printer}
use Rattle.kin_status.proofs.Performing.{moved, moving_broke}
use Rattle.kin_run.proofs.perform.move_to.Goals as goal

pub returns-in_err-go_to-clause-performs : goal.returns-in_err-go_to-clause-performs
returns-in_err-go_to-clause-performs g c = λ upper p named.
    let e = err_from_is_err_and c.from_residual.result c.from_residual.ensures.1 in
    let later : ¬ (IsEarlier (just_at c.args.asked) c.args.world.now.moment) = λ h. let t = c.if-is_before.ensures.1 (subst (IsEarlier (just_at c.args.asked)) (sym c.now.ensures.value) h) in cc in
    rw (e.1, e.2) (moving_broke (state_of c.args.journal c.args.world.now) upper p c.args.asked named later c.in_err-go_to.field-0.0 (printer (g.K.Sink.held c.args.sink.now) c.args.out.now.items) (printer (g.K.Sink.held c.go_to.new.sink) c.go_to.new.out.items) c.in_err-go_to.ensures.text)

pub returns-clause-performs : goal.returns-clause-performs
returns-clause-performs g c = λ upper p named.
    let later : ¬ (IsEarlier (just_at c.args.asked) c.args.world.now.moment) = λ h. let t = c.if-is_before.ensures.1 (subst (IsEarlier (just_at c.args.asked)) (sym c.now.ensures.value) h) in cc in
    moved (state_of c.args.journal c.args.world.now) upper p c.args.asked named later (state_of c.args.journal c.go_to.new.world) c.in_ok-go_to.ensures.moved c.in_ok-go_to.ensures.text

pub returns-then-is_before-clause-performs : goal.returns-then-is_before-clause-performs
returns-then-is_before-clause-performs g c = λ upper p named. (inr (refl, (c.args.asked, named, subst (IsEarlier (just_at c.args.asked)) c.now.ensures.value (c.if-is_before.ensures.0 refl))), refl, refl)
