use Rattle.std.proofs.Common.{[], Some, refl}
use Rattle.kin_legs.specs.Paths.{lasting}
use Rattle.kin_status.proofs.Gathering.{front_nil, gains_nothing}
use Rattle.kin_status.proofs.Performing.{changed}
use Rattle.kin_run.proofs.Vocabulary.{enters, err_from_is_err_and, state_of}
use Rattle.kin_run.proofs.Changing.{alike_same, inserted, may_enter, taken}
use Rattle.kin_run.proofs.change.insert.Goals as goal

pub returns-then-not-can_insert-clause-performs : goal.returns-then-not-can_insert-clause-performs
returns-then-not-can_insert-clause-performs g c = λ journal p.
    ((refl, taken c.args.world.now c.args.no c.can_insert.result c.requires.room c.can_insert.ensures.value c.if-not-can_insert.true), refl, refl)

pub returns-in_err-insert-clause-performs : goal.returns-in_err-insert-clause-performs
returns-in_err-insert-clause-performs g c = λ journal p.
    let e = err_from_is_err_and c.from_residual.result c.from_residual.ensures.1 in
    rw (e.1, e.2) (may_enter journal c.args.world.now c.args.no c.args.m (c.can_insert.ensures.value.0 c.if-not-can_insert.false).1, record { text = []; gained = gains_nothing p; is = λ text is. front_nil text })

pub returns-clause-performs : goal.returns-clause-performs
returns-clause-performs g c = λ journal p.
    let w = c.args.world.now in
    let n = c.args.no in
    let m = c.args.m in
    let free = (c.can_insert.ensures.value.0 c.if-not-can_insert.false).1 in
    changed (state_of journal w) n (enters m) p (may_enter journal w n m free) (Some (lasting m)) (state_of journal c.insert.new.self) refl
    (alike_same _ _ (inserted journal n m c.requires.whole free c.in_ok-insert.ensures.inserted))
