use Rattle.std.proofs.Common.{rules, arith, ◌∙◌}
use Rattle.kin_status.proofs.Generated.{wrote_whole, wrote_part, never_refused, cut_of_body, broken_demo}
use Rattle.kin_status.proofs.Tallying.{tallied_from_nothing}
use Rattle.kin_algebra.proofs.Options.{none_or_some}
use Rattle.kin_run.proofs.demo.run_generated.Goals as goal

pub returns-in-Ok-write_tally-clause-writes : goal.returns-in-Ok-write_tally-clause-writes
returns-in-Ok-write_tally-clause-writes g c =
    let body = rw c.in-Ok-None.field-0-is at c.in-Ok-None.ensures.ok in
    let counted = rw (c.new.ensures, c.in-Some.is) at c.in-Ok-None.ensures.tallied c.in-Ok-None.field-0-is in
    wrote_whole c.args.seed c.args.count c.in-Ok.script c.in-Ok.ensures.script (g.K.Sink.held c.args.sink.now) (g.K.Sink.held c.play_script.new.sink) body c.in-Some.counts counted (g.K.Sink.held c.write_tally.new.sink) c.in-Ok-write_tally.ensures.ok

pub returns-in-Ok-None-clause-writes : goal.returns-in-Ok-None-clause-writes
returns-in-Ok-None-clause-writes g c =
    let body = rw c.in-Ok-None.field-0-is at c.in-Ok-None.ensures.ok in
    let counted = rw (c.new.ensures, c.in-Some.is) at c.in-Ok-None.ensures.tallied c.in-Ok-None.field-0-is in
    rw c.status_of.ensures
    (wrote_part c.args.seed c.args.count c.in-Ok.script c.in-Ok.ensures.script (g.K.Sink.held c.args.sink.now) (g.K.Sink.held c.play_script.new.sink) body c.in-Some.counts counted (g.K.Sink.held c.write_tally.new.sink) c.in-Err-write_tally.ensures.err c.in-Err-write_tally.stop)

pub unreachable-requires : goal.unreachable-requires
unreachable-requires g c =
    let x = rw c.new.ensures at c.in-Ok-None.ensures.tallied c.in-Ok-None.field-0-is in
    none_or_some c.in_default-tally.is (x.counted ∙ tallied_from_nothing x.blocks)

pub unreachable-requires-in-Ok-Some : goal.unreachable-requires-in-Ok-Some
unreachable-requires-in-Ok-Some g c = search (rules, arith, never_refused, c.in-Ok.ensures.script, c.in-Ok-Some.ensures.ok, c.in-Ok-Some.field-0-is)

pub returns-clause-writes : goal.returns-clause-writes
returns-clause-writes g c = search (rules, arith, c.in-Err.ensures.cut, c.status_of-in-Err.ensures, broken_demo, cut_of_body, c.in-Ok.ensures.script)
