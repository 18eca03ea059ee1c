use Rattle.std.proofs.Common.{◌++◌, refl}
use Rattle.std.proofs.lemmas.Result.{on_ok_weaker, on_err_weaker}
use Rattle.kin_algebra.proofs.Results.{on_err}
use Rattle.kin_fail.specs.Blocks.{failure_of}
use Rattle.kin_script.specs.Printed.{moment_text}
use Rattle.kin_print.proofs.Fronts.{both, front_first, front_behind, front_of_both}
use Rattle.kin_print.proofs.Failures.{form_of, signs_of, behind_moment, failure_pieces}
use Rattle.kin_print.proofs.failure.put_failure.Goals as goal

pub returns-in_err-put_moment-clause-err : goal.returns-in_err-put_moment-clause-err
returns-in_err-put_moment-clause-err c =
    on_err c.from_residual-in_err-put_moment.result
    (front_of_both _ _ _ _ _ _ c.in_ok-put_bytes.ensures.ok (failure_pieces c.args.m.now (failure_of c.args.f.now)) (front_first _ _ _ _ c.in_err-put_moment.ensures.err))

pub returns-in_err-put_owner-clause-err : goal.returns-in_err-put_owner-clause-err
returns-in_err-put_owner-clause-err c =
    on_err c.from_residual-in_err-put_owner.result
    (front_of_both _ _ _ _ _ _ c.in_ok-put_bytes.ensures.ok (failure_pieces c.args.m.now (failure_of c.args.f.now))
    (front_behind _ _ _ _ _ c.in_ok-put_moment.ensures.ok (front_first _ _ _ _ c.in_err-put_owner.ensures.err)))

pub returns-in_err-put_form-clause-err : goal.returns-in_err-put_form-clause-err
returns-in_err-put_form-clause-err c =
    on_err c.from_residual-in_err-put_form.result
    (front_of_both _ _ _ _ _ _ c.in_ok-put_bytes.ensures.ok (failure_pieces c.args.m.now (failure_of c.args.f.now))
    (front_behind _ _ _ _ _ c.in_ok-put_moment.ensures.ok (front_behind _ _ _ _ _ c.in_ok-put_owner.ensures.ok (front_first _ _ _ _ c.in_err-put_form.ensures.err))))

pub returns-clause-ok : goal.returns-clause-ok
returns-clause-ok c =
    let f = failure_of c.args.f.now in
    on_ok_weaker c.put_signs.result
    (λ e. both _ _ _ _ (moment_text c.args.m.now ++ behind_moment f) _ c.in_ok-put_bytes.ensures.ok (failure_pieces c.args.m.now f)
    (both _ _ _ _ (behind_moment f) _ c.in_ok-put_moment.ensures.ok refl
    (both _ _ _ _ (form_of f ++ signs_of f) _ c.in_ok-put_owner.ensures.ok refl (both _ _ _ _ (signs_of f) _ c.in_ok-put_form.ensures.ok refl e))))
    c.put_signs.ensures.ok

pub returns-clause-err : goal.returns-clause-err
returns-clause-err c =
    on_err_weaker c.put_signs.result
    (λ p. front_of_both _ _ _ _ _ _ c.in_ok-put_bytes.ensures.ok (failure_pieces c.args.m.now (failure_of c.args.f.now))
    (front_behind _ _ _ _ _ c.in_ok-put_moment.ensures.ok (front_behind _ _ _ _ _ c.in_ok-put_owner.ensures.ok (front_behind _ _ _ _ _ c.in_ok-put_form.ensures.ok p))))
    c.put_signs.ensures.err
