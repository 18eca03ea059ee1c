use Rattle.std.proofs.Common.{[], ap, arith, not, refl, ◌∙◌}
use Rattle.kin_run.proofs.Vocabulary.{err_from_is_err_and, just_at, printer}
use Rattle.kin_world.proofs.RootLaws.{journals_exist}
use Rattle.kin_status.proofs.Tallying.{untallied}
use Rattle.kin_status.proofs.Gathering.{gains_nothing}
use Rattle.kin_run.proofs.Arriving.{alike_there}
use Rattle.kin_run.proofs.OnTheWay.{sets_out, breaks_here, breaks_within, faults_behind, goes_on, goes_on_quietly, arrives, arrives_there, counted_all, told_some, told_none}
use Rattle.kin_run.proofs.go_to.go_to.Goals as goal

pub loop-block-init : goal.loop-block-init
loop-block-init g c = record { on = sets_out c.args.journal c.args.world.now c.args.asked (printer (g.K.Sink.held c.args.sink.now) c.args.out.now.items) c.args.tally.now c.requires.whole c.requires.later; later = omega arith }

pub returns-in_err-block-clause-text : goal.returns-in_err-block-clause-text
returns-in_err-block-clause-text g c =
    let e = err_from_is_err_and c.from_residual-in_err-block.result c.from_residual-in_err-block.ensures.1 in
    rw (e.1, e.2) (breaks_here c.loop-block.invariant.on c.requires.canonical)

pub returns-in_err-put_if_on-clause-text : goal.returns-in_err-put_if_on-clause-text
returns-in_err-put_if_on-clause-text g c =
    let e = err_from_is_err_and c.from_residual-in_err-put_if_on.result c.from_residual-in_err-put_if_on.ensures.1 in
    rw (e.1, e.2) (breaks_within c.loop-block.invariant.on c.requires.canonical (rw c.in-Some-2.is at c.in_ok-block.ensures.stepped) c.put_if_on.new.out.items c.in_err-put_if_on.ensures.err)

pub returns-in_err-flush_if_due-clause-text : goal.returns-in_err-flush_if_due-clause-text
returns-in_err-flush_if_due-clause-text g c =
    let e = err_from_is_err_and c.from_residual-in_err-flush_if_due.result c.from_residual-in_err-flush_if_due.ensures.1 in
    rw (e.1, e.2)
    (faults_behind c.loop-block.invariant.on c.requires.canonical (rw c.in-Some-2.is at c.in_ok-block.ensures.stepped) c.put_if_on.new.out.items (printer (g.K.Sink.held c.flush_if_due.new.sink) c.flush_if_due.new.out.items) c.in_ok-put_if_on.ensures.ok c.in_err-flush_if_due.ensures.front)

pub loop-block-preserved : goal.loop-block-preserved
loop-block-preserved g c = record {
  on = goes_on c.loop-block.invariant.on c.requires.canonical (rw c.in-Some-2.is at c.in_ok-block.ensures.stepped) c.put_if_on.new.out.items c.in_ok-put_if_on.ensures.ok c.in_ok-flush_if_due.ensures.gained c.count_of.result c.count_of.ensures c.count_on-in-Some-2.ensures;
  later = omega (arith, c.loop-block.invariant.later, c.flush_if_due.ensures.cause.later);
}

pub returns-clause-text : goal.returns-clause-text
returns-clause-text g c =
    arrives c.loop-block.invariant.on c.requires.canonical (rw c.in_default-2.is at c.in_ok-block.ensures.stepped)

pub returns-clause-tallied : goal.returns-clause-tallied
returns-clause-tallied g c =
    counted_all c.loop-block.invariant.on c.requires.canonical (rw c.in_default-2.is at c.in_ok-block.ensures.stepped)

-- ---- without a list of the failures
pub loop-failures-init : goal.loop-failures-init
loop-failures-init g c = sets_out c.args.journal c.args.world.now c.args.asked (printer (g.K.Sink.held c.args.sink.now) c.args.out.now.items) c.args.tally.now c.requires.whole c.requires.later

pub returns-in_err-failures-clause-text : goal.returns-in_err-failures-clause-text
returns-in_err-failures-clause-text g c =
    let e = err_from_is_err_and c.from_residual-in_err-failures.result c.from_residual-in_err-failures.ensures.1 in
    rw (e.1, e.2) (breaks_here c.loop-failures.invariant c.requires.canonical)

pub loop-failures-preserved : goal.loop-failures-preserved
loop-failures-preserved g c =
    let block = told_some (just_at c.args.asked) c.loop-failures.world c.pass.new.self c.in_ok-failures.field-0 c.in-Some.failures c.in-Some.is c.in_ok-failures.ensures.stepped in
    goes_on_quietly c.loop-failures.invariant c.requires.canonical c.if-not-journal-2.true block.1 c.in-Some.failures block.2 c.count_on.ensures

pub returns-then-not-journal-2-clause-tallied : goal.returns-then-not-journal-2-clause-tallied
returns-then-not-journal-2-clause-tallied g c =
    counted_all c.loop-failures.invariant c.requires.canonical (told_none (just_at c.args.asked) c.loop-failures.world c.pass.new.self c.in_ok-failures.field-0 c.in_default.is c.in_ok-failures.ensures.stepped)

-- ---- by leaps
pub returns-in_err-leap_to-clause-text : goal.returns-in_err-leap_to-clause-text
returns-in_err-leap_to-clause-text g c =
    let e = err_from_is_err_and c.from_residual.result c.from_residual.ensures.1 in
    rw (e.1, e.2) (breaks_here (sets_out c.args.journal c.args.world.now c.args.asked (printer (g.K.Sink.held c.args.sink.now) c.args.out.now.items) c.args.tally.now c.requires.whole c.requires.later) c.requires.canonical)

pub returns-then-is_none-clause-text : goal.returns-then-is_none-clause-text
returns-then-is_none-clause-text g c = record {
  text = [];
  gained = gains_nothing _;
  is = rw c.if-not-journal.true refl;
}

pub returns-then-is_none-clause-tallied : goal.returns-then-is_none-clause-tallied
returns-then-is_none-clause-tallied g c =
    let w = c.args.world.now in
    let j = journals_exist w (just_at c.args.asked) c.requires.whole c.requires.canonical c.requires.later in
    untallied _ c.args.tally.now j.0 (c.is_none.ensures ∙ ap not c.if-is_none.true) j.1

-- ---- what the replay sees
pub returns-clause-moved : goal.returns-clause-moved
returns-clause-moved g c =
    alike_there c.args.journal (arrives_there c.loop-block.invariant.on c.requires.canonical (rw c.in_default-2.is at c.in_ok-block.ensures.stepped))

pub returns-then-not-journal-2-clause-moved : goal.returns-then-not-journal-2-clause-moved
returns-then-not-journal-2-clause-moved g c =
    alike_there c.args.journal (arrives_there c.loop-failures.invariant c.requires.canonical (told_none (just_at c.args.asked) c.loop-failures.world c.pass.new.self c.in_ok-failures.field-0 c.in_default.is c.in_ok-failures.ensures.stepped))

pub returns-then-is_none-clause-moved : goal.returns-then-is_none-clause-moved
returns-then-is_none-clause-moved g c = alike_there c.args.journal c.in_ok-leap_to.ensures.arrived
