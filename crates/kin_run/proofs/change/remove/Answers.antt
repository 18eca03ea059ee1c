use Rattle.std.proofs.Common.{[], None, ap, not, refl, sym, ◌∙◌, is_some}
use Rattle.kin_status.proofs.Gathering.{front_nil, gains_nothing}
use Rattle.kin_status.proofs.Performing.{changed}
use Rattle.kin_run.proofs.Vocabulary.{err_from_is_err_and, leaves, state_of}
use Rattle.kin_run.proofs.Changing.{alike_same, live_with_plan, may_leave, removed}
use Rattle.kin_run.proofs.change.remove.Goals as goal

pub returns-then-is_none-clause-performs : goal.returns-then-is_none-clause-performs
returns-then-is_none-clause-performs g c = λ journal p.
    ((refl, live_with_plan c.args.world.now c.args.no ∙ ap is_some (sym c.motion.ensures.value) ∙ c.is_none.ensures ∙ ap not c.if-is_none.true), refl, refl)

pub returns-in_err-remove-clause-performs : goal.returns-in_err-remove-clause-performs
returns-in_err-remove-clause-performs g c = λ journal p.
    let e = err_from_is_err_and c.from_residual.result c.from_residual.ensures.1 in
    let live = ap is_some (sym c.motion.ensures.value) ∙ c.is_none.ensures ∙ ap not c.if-is_none.false in
    rw (e.1, e.2) (may_leave journal c.args.world.now c.args.no live, record { text = []; gained = gains_nothing p; is = λ text is. front_nil text })

pub returns-clause-performs : goal.returns-clause-performs
returns-clause-performs g c = λ journal p.
    let w = c.args.world.now in
    let n = c.args.no in
    let live = ap is_some (sym c.motion.ensures.value) ∙ c.is_none.ensures ∙ ap not c.if-is_none.false in
    changed (state_of journal w) n leaves p (may_leave journal w n live) None (state_of journal c.remove.new.self) refl (alike_same _ _ (removed journal n c.in_ok-remove.ensures.removed))
