use Rattle.std.proofs.Common.{[], Some, ap, refl, sym, ◌∙◌, is_some}
use Rattle.kin_legs.specs.Paths.{lasting}
use Rattle.kin_status.proofs.Gathering.{front_nil, gains_nothing}
use Rattle.kin_status.proofs.Performing.{changed}
use Rattle.kin_run.proofs.Vocabulary.{err_from_is_err_and, restarts, state_of}
use Rattle.kin_run.proofs.Changing.{absent, alike_same, may_restart, replaced}
use Rattle.kin_run.proofs.change.replace.Goals as goal

pub returns-in_default-clause-performs : goal.returns-in_default-clause-performs
returns-in_default-clause-performs g c = λ journal p. ((refl, absent c.args.world.now c.args.no (sym c.motion.ensures.value ∙ c.in_default.is)), refl, refl)

pub returns-in_err-replace-clause-performs : goal.returns-in_err-replace-clause-performs
returns-in_err-replace-clause-performs g c = λ journal p.
    let e = err_from_is_err_and c.from_residual.result c.from_residual.ensures.1 in
    let live = ap is_some (sym c.motion.ensures.value ∙ c.in-Some.is) in
    rw (e.1, e.2) (may_restart journal c.args.world.now c.args.no c.args.m live, record { text = []; gained = gains_nothing p; is = λ text is. front_nil text })

pub returns-clause-performs : goal.returns-clause-performs
returns-clause-performs g c = λ journal p.
    let w = c.args.world.now in
    let n = c.args.no in
    let m = c.args.m in
    let live = ap is_some (sym c.motion.ensures.value ∙ c.in-Some.is) in
    changed (state_of journal w) n (restarts m) p (may_restart journal w n m live) (Some (lasting m)) (state_of journal c.replace.new.self) refl (alike_same _ _ (replaced journal n m c.in_ok-replace.ensures.replaced))
