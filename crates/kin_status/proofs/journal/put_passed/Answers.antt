use Rattle.std.proofs.Common.{rules, arith}
use Rattle.kin_status.proofs.Vocabulary.{on_err_weaker, on_err, front_behind, front_first}
use Rattle.kin_status.proofs.journal.put_passed.Goals as goal

pub returns-in_err-put_if_on-clause-err : goal.returns-in_err-put_if_on-clause-err
returns-in_err-put_if_on-clause-err c =
    on_err c.from_residual.result
    (front_first _ _ _ _ c.in_err-put_if_on.ensures.err)

pub returns-clause-err : goal.returns-clause-err
returns-clause-err c = search (rules, arith, c.block.view_is, on_err_weaker, front_behind, c.in_ok-put_if_on.ensures.ok, c.put_now.ensures.err)
