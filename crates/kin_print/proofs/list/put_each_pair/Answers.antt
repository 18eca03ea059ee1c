use Rattle.kin_algebra.proofs.Results.{on_err}
use Rattle.kin_script.specs.PrintedJournal.{two_line}
use Rattle.kin_print.proofs.Fronts.{front_at}
use Rattle.kin_print.proofs.list.put_each_pair.Goals as goal

pub returns-in_err-put_two-clause-err : goal.returns-in_err-put_two-clause-err
returns-in_err-put_two-clause-err c =
    on_err c.from_residual.result
    (front_at two_line c.args.out.now.items c.loop-pair.out.items c.put_two.new.out.items c.args.pairs.now c.loop-pair.pair-index (0, 0)
    c.loop-pair-test.true c.loop-pair.invariant c.in_err-put_two.ensures.err)
