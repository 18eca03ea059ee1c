use Rattle.std.proofs.Common.{false, refl}
use Rattle.kin_run.proofs.Vocabulary.{err_from_is_err_and, state_of}
use Rattle.kin_status.proofs.Performing.{no_reply, no_fault, reply_broke}
use Rattle.kin_run.proofs.reply.put_reply_to.Goals as goal

pub returns-in_err-reply-clause-line : goal.returns-in_err-reply-clause-line
returns-in_err-reply-clause-line c = λ journal.
    let e = err_from_is_err_and c.from_residual.result c.from_residual.ensures.1 in
    rw (e.1, e.2) (no_reply (state_of journal c.args.world.now) c.args.command.now c.args.out.now.items c.args.out.now.items (Unit {0}) c.in_err-reply.field-0.0 (c.in_err-reply.ensures.reply journal) refl)

pub returns-in_err-reply-clause-no_fault : goal.returns-in_err-reply-clause-no_fault
returns-in_err-reply-clause-no_fault c =
    let e = err_from_is_err_and c.from_residual.result c.from_residual.ensures.1 in
    rw (e.1, e.2) (no_fault (state_of false c.args.world.now) c.args.command.now c.in_err-reply.field-0.0 (c.in_err-reply.ensures.reply false))

pub returns-in_err-put_reply-clause-line : goal.returns-in_err-put_reply-clause-line
returns-in_err-put_reply-clause-line c = λ journal.
    let e = err_from_is_err_and c.from_residual-in_err-put_reply.result c.from_residual-in_err-put_reply.ensures.1 in
    rw (e.1, e.2) (reply_broke (state_of journal c.args.world.now) c.args.command.now c.args.out.now.items c.put_reply.new.out.items (Unit {0}) c.requires.whole.canonical c.in_ok-reply.reply (c.in_ok-reply.ensures.reply journal) c.in_err-put_reply.ensures.err)

pub returns-clause-line : goal.returns-clause-line
returns-clause-line c = λ journal.
    let is = c.in_ok-reply.ensures.reply journal in
    (is.0, (_, c.in_ok-put_reply.ensures.ok, is.1))
