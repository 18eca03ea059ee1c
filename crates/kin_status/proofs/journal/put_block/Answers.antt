use Rattle.std.proofs.Common.{rules, arith, subst, take_all}
use Rattle.kin_status.proofs.Vocabulary.{on_err, front_at, PutsFront}
use Rattle.kin_status.proofs.Passing.{line_in, lines_in}
use Rattle.kin_status.proofs.journal.put_block.Goals as goal

pub returns-in_err-put_failure-clause-err : goal.returns-in_err-put_failure-clause-err
returns-in_err-put_failure-clause-err c =
    let m = c.block.inside.moment in
    let failures = c.deref-failure-items.result.now in
    let lines = lines_in m failures _ _ c.deref-failure-items.ensures.value c.block.view_is in
    on_err c.from_residual.result
    (subst (PutsFront c.args.out.now.items c.put_failure.new.out.items) lines
    (front_at (line_in m) c.args.out.now.items c.loop-failure.out.items c.put_failure.new.out.items failures c.loop-failure.failure-index _ c.loop-failure-test.true c.loop-failure.invariant c.in_err-put_failure.ensures.err))

pub returns-clause-ok : goal.returns-clause-ok
returns-clause-ok c =
    search (rules, arith, lines_in, c.deref-failure-items.ensures.value, c.block.view_is, c.loop-failure.invariant, take_all, c.loop-failure-test.false)
