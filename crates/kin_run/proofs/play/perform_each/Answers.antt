use Rattle.std.proofs.Common.{[], ◌∙◌, refl, sym, arith}
use Rattle.kin_run.proofs.Vocabulary.{err_from_is_err_and, deed_of, refused_line, state_of, printer}
use Rattle.kin_status.proofs.Determined.{stays}
use Rattle.kin_status.proofs.Gathering.{gains_nothing, gains_put, some_flushed}
use Rattle.kin_status.proofs.Tallying.{none_tallied}
use Rattle.kin_status.proofs.Playing.{all_done, carried_out, lost_behind, broke_off, refused_here, broke_refusing, counts_command, counts_all}
use Rattle.kin_run.proofs.Arriving.{in_range_still, on_paths}
use Rattle.kin_run.proofs.play.perform_each.Goals as goal

pub loop-line-init : goal.loop-line-init
loop-line-init g c = record {
  so_far = record { text = []; gained = gains_nothing (printer (g.K.Sink.held c.args.sink.now) c.args.out.now.items); is = record { forth = λ rest ending p. p; back = λ text ending p. (text, p, refl) } };
  passed = none_tallied _ c.args.tally.now (record { forth = λ rest is. is });
  whole = c.requires.whole;
  size = refl;
  later = omega arith;
}

pub returns-in_err-flush_if_due-in-Ok-clause-text : goal.returns-in_err-flush_if_due-in-Ok-clause-text
returns-in_err-flush_if_due-in-Ok-clause-text g c =
    let e = err_from_is_err_and c.from_residual.result c.from_residual.ensures.1 in
    let inv = c.loop-line.invariant in
    rw (e.1, e.2)
    (lost_behind c.loop-line.line-index inv.so_far c.loop-line-item.result c.loop-line-test.true c.loop-line-item.is (state_of c.args.journal c.perform.new.world)
    (on_paths c.args.journal c.loop-line.world inv.whole) (on_paths c.args.journal c.perform.new.world c.in-Ok.ensures.whole) (in_range_still c.args.lines.now inv.size c.requires.ranges)
    (printer (g.K.Sink.held c.flush_if_due.new.sink) c.flush_if_due.new.out.items) c.in-Ok.ensures.performs c.in_err-flush_if_due-in-Ok.ensures.front)

pub returns-in_err-put_refused-in-Err-Refused-clause-text : goal.returns-in_err-put_refused-in-Err-Refused-clause-text
returns-in_err-put_refused-in-Err-Refused-clause-text g c =
    let h = c.in-Err-Refused in
    let e = err_from_is_err_and c.from_residual-in_err-put_refused-in-Err-Refused.result c.from_residual-in_err-put_refused-in-Err-Refused.ensures.1 in
    let performs = rw h.field-0-is at h.ensures.performs in
    let put = rw h.refusal-is at c.in_err-put_refused-in-Err-Refused.ensures.err in
    rw (e.1, e.2)
    (broke_refusing c.loop-line.line-index c.loop-line.invariant.so_far c.loop-line-item.result c.loop-line-test.true c.loop-line-item.is h.refusal performs.0 performs.1 put.front
    (gains_put (g.K.Sink.held c.perform.new.sink) c.perform.new.out.items c.put_refused.new.out.items put.front put.put) (record { more = put.rest; joined = put.cut }))

pub returns-in-Err-Refused-clause-text : goal.returns-in-Err-Refused-clause-text
returns-in-Err-Refused-clause-text g c =
    let h = c.in-Err-Refused in
    let performs = rw h.field-0-is at h.ensures.performs in
    let put = rw h.refusal-is at c.in_ok-put_refused-in-Err-Refused.ensures.ok in
    rw h.refusal-is
    (refused_here c.loop-line.line-index c.loop-line.invariant.so_far c.loop-line-item.result c.loop-line-test.true c.loop-line-item.is h.refusal performs.0 performs.1
    (gains_put (g.K.Sink.held c.perform.new.sink) c.perform.new.out.items c.put_refused.new.out.items (refused_line c.loop-line-item.result.0 h.refusal) put))

pub returns-in-Err-Broken-clause-text : goal.returns-in-Err-Broken-clause-text
returns-in-Err-Broken-clause-text g c =
    let h = c.in-Err-Broken in
    rw h.stop-is (broke_off c.loop-line.line-index c.loop-line.invariant.so_far c.loop-line-item.result c.loop-line-test.true c.loop-line-item.is h.stop (printer (g.K.Sink.held c.perform.new.sink) c.perform.new.out.items) (rw h.field-0-is at h.ensures.performs))

pub loop-line-preserved : goal.loop-line-preserved
loop-line-preserved g c =
    let u = state_of c.args.journal c.perform.new.world in
    let item = c.loop-line-item.result in
    let inv = c.loop-line.invariant in
    let done = c.in-Ok.ensures.performs in
    let on = on_paths c.args.journal c.loop-line.world inv.whole in
    let then = on_paths c.args.journal c.perform.new.world c.in-Ok.ensures.whole in
    let range = in_range_still c.args.lines.now inv.size c.requires.ranges in
    let step = done.is.1 in
    let alike = done.is.2 in
    record {
      so_far = some_flushed (carried_out c.loop-line.line-index inv.so_far item c.loop-line-test.true c.loop-line-item.is u on then range done) c.in_ok-flush_if_due-in-Ok.ensures.gained;
      passed = counts_command c.loop-line.line-index item inv.passed c.loop-line-test.true c.loop-line-item.is u on then range done.is.0 c.perform.new.tally step.allowed step.leads alike c.in-Ok.ensures.tallied;
      whole = c.in-Ok.ensures.whole;
      size = sym alike.size ∙ (stays _ (deed_of item.1) done.is.0 inv.whole.canonical step.leads).0 ∙ inv.size;
      later = omega (arith, c.perform.ensures.later, c.flush_if_due.ensures.cause.later, inv.later);
    }

pub returns-clause-text : goal.returns-clause-text
returns-clause-text g c = all_done c.loop-line.line-index c.loop-line.invariant.so_far c.loop-line-test.false

pub returns-clause-tallied : goal.returns-clause-tallied
returns-clause-tallied g c = λ _. counts_all c.loop-line.line-index c.loop-line.invariant.passed c.loop-line-test.false
