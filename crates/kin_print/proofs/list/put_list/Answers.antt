use Rattle.std.proofs.lemmas.Result.{on_ok_weaker, on_err_weaker}
use Rattle.kin_print.proofs.Fronts.{both, front_of_both, line_of_some}
use Rattle.kin_print.proofs.list.put_list.Goals as goal

pub returns-in_ok-put_number-in-len1-up-clause-ok :
    goal.returns-in_ok-put_number-in-len1-up-clause-ok
returns-in_ok-put_number-in-len1-up-clause-ok c =
    on_ok_weaker c.put_rest.result (both _ _ _ _ _ _ c.in_ok-put_number-in-len1-up.ensures.ok (line_of_some c.args.list.now c.in-len1-up.len_at_least)) c.put_rest.ensures.ok

pub returns-in_ok-put_number-in-len1-up-clause-err :
    goal.returns-in_ok-put_number-in-len1-up-clause-err
returns-in_ok-put_number-in-len1-up-clause-err c =
    on_err_weaker c.put_rest.result (front_of_both _ _ _ _ _ _ c.in_ok-put_number-in-len1-up.ensures.ok (line_of_some c.args.list.now c.in-len1-up.len_at_least)) c.put_rest.ensures.err
