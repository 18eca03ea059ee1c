use Rattle.std.proofs.Common.{subst}
use Rattle.std.proofs.lemmas.Result.{on_ok_weaker, on_err_weaker}
use Rattle.kin_algebra.proofs.Results.{on_err}
use Rattle.kin_script.specs.Printed.{PutsFront}
use Rattle.kin_print.proofs.Fronts.{both, front_first, front_of_both}
use Rattle.kin_print.proofs.Failures.{form_pieces}
use Rattle.kin_print.proofs.failure.put_form.Goals as goal

pub returns-in_err-put_kind-clause-err : goal.returns-in_err-put_kind-clause-err
returns-in_err-put_kind-clause-err c =
    on_err c.from_residual.result
    (subst (PutsFront c.args.out.now.items c.put_kind.new.out.items) (form_pieces c.args.form.now)
    (front_first _ _ _ _ c.in_err-put_kind.ensures.err))

pub returns-clause-ok : goal.returns-clause-ok
returns-clause-ok c =
    on_ok_weaker c.put_points.result (both _ _ _ _ _ _ c.in_ok-put_kind.ensures.ok (form_pieces c.args.form.now)) c.put_points.ensures.ok

pub returns-clause-err : goal.returns-clause-err
returns-clause-err c =
    on_err_weaker c.put_points.result (front_of_both _ _ _ _ _ _ c.in_ok-put_kind.ensures.ok (form_pieces c.args.form.now)) c.put_points.ensures.err
