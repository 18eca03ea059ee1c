use Rattle.kin_algebra.proofs.Results.{on_err}
use Rattle.kin_script.specs.Printed.{instant_text, phase_text}
use Rattle.kin_print.proofs.Fronts.{front_first}
use Rattle.kin_print.proofs.moment.put_moment.Goals as goal

pub returns-in_err-put_instant-clause-err : goal.returns-in_err-put_instant-clause-err
returns-in_err-put_instant-clause-err c =
    on_err c.from_residual.result
    (front_first c.args.out.now.items c.put_instant.new.out.items (instant_text c.args.m.now.at) (phase_text c.args.m.now.phase) c.in_err-put_instant.ensures.err)
