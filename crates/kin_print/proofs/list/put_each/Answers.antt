use Rattle.kin_algebra.proofs.Results.{on_err}
use Rattle.kin_print.specs.Pieces.{spaced}
use Rattle.kin_print.proofs.Fronts.{front_at}
use Rattle.kin_print.proofs.list.put_each.Goals as goal

pub returns-in_err-put_spaced-clause-err : goal.returns-in_err-put_spaced-clause-err
returns-in_err-put_spaced-clause-err c =
    on_err c.from_residual.result
    (front_at spaced c.args.out.now.items c.loop-n.out.items c.put_spaced.new.out.items c.args.list.now c.loop-n.n-index 0 c.loop-n-test.true c.loop-n.invariant c.in_err-put_spaced.ensures.err)
