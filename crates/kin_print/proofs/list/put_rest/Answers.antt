use Rattle.std.proofs.Common.{codes, flat_map}
use Rattle.kin_algebra.proofs.Results.{on_err}
use Rattle.kin_print.specs.Pieces.{spaced}
use Rattle.kin_print.proofs.Fronts.{front_first}
use Rattle.kin_print.proofs.list.put_rest.Goals as goal

pub returns-in_err-put_each-clause-err : goal.returns-in_err-put_each-clause-err
returns-in_err-put_each-clause-err c =
    on_err c.from_residual.result
    (front_first c.args.out.now.items c.put_each.new.out.items (flat_map spaced c.args.list.now) (codes "\n") c.in_err-put_each.ensures.err)
