use Rattle.std.proofs.Common.{[], refl, sym, append-nil}
use Rattle.kin_legs.specs.Nexts as next
use Rattle.kin_script.specs.PrintedJournal.{now_line}
use Rattle.kin_script.specs.Text.{next_lines}
use Rattle.kin_run.proofs.Vocabulary.{err_from_is_err_and, on_err_weaker, on_ok, nothing, none_line, HasMoved, HasPassed, state_of}
use Rattle.kin_status.specs.Passed.{IsNextIfAny}
use Rattle.kin_status.proofs.Forgetting.{alike_itself}
use Rattle.kin_status.proofs.Tallying.{none_tallied, one_tallied}
use Rattle.kin_status.proofs.Passing.{not_back}
use Rattle.kin_status.proofs.Gathering.{front_nil}
use Rattle.kin_status.proofs.Performing.{puts_next}
use Rattle.kin_run.proofs.Arriving.{alike_there, goes_on_to}
use Rattle.kin_run.proofs.Coming.{block_comes, comes_later, leg_comes}
use Rattle.kin_run.proofs.next.put_next.Goals as goal

-- ---- nothing comes any more
pub returns-in_default-clause-line : goal.returns-in_default-clause-line
returns-in_default-clause-line g c =
    puts_next (state_of c.args.journal c.args.world.now) c.requires.whole.canonical none_line (next.nothing, c.in_default.ensures.none.0 refl, refl) c.put_bytes.result c.args.out.now.items c.put_bytes.new.out.items c.put_bytes.ensures.ok
    (on_err_weaker c.put_bytes.result (nothing c.args.out.now.items c.put_bytes.new.out.items none_line) c.put_bytes.ensures.err)

pub returns-in_default-clause-leads : goal.returns-in_default-clause-leads
returns-in_default-clause-leads g c =
    let s = state_of c.args.journal c.args.world.now in
    on_ok c.put_bytes.result (s, (next.nothing, c.in_default.ensures.none.0 refl, refl), alike_itself s)

pub returns-in_default-clause-tallied : goal.returns-in_default-clause-tallied
returns-in_default-clause-tallied g c =
    on_ok c.put_bytes.result (none_tallied (IsNextIfAny (state_of c.args.journal c.args.world.now)) c.args.tally.now (next.nothing, c.in_default.ensures.none.0 refl, refl))

-- ---- the step
pub step-requires-clause-later : goal.step-requires-clause-later
step-requires-clause-later g c =
    let n = c.in-Some.ensures.some in
    comes_later c.args.world.now c.requires.whole c.in-Some.moment n.0 n.1 n.2

pub returns-in_err-block-clause-line : goal.returns-in_err-block-clause-line
returns-in_err-block-clause-line g c =
    rw (err_from_is_err_and c.from_residual.result c.from_residual.ensures.1).1 ([], sym (append-nil c.args.out.now.items), λ text is. front_nil text)

-- ---- a block comes
pub returns-in-Some-2-clause-line : goal.returns-in-Some-2-clause-line
returns-in-Some-2-clause-line g c =
    let w = c.args.world.now in
    let n = c.in-Some.ensures.some in
    let b = c.in-Some-2.block in
    let h : HasPassed c.in-Some.moment b w c.step.new.self = rw c.in-Some-2.is at c.in_ok-block.ensures.stepped in
    let is = block_comes w c.requires.whole c.in-Some.moment n.0 n.1 n.2 b h.next h.within in
    puts_next (state_of c.args.journal w) c.requires.whole.canonical (next_lines c.args.journal (next.block b)) (next.block b, is, refl) c.put_passed.result c.args.out.now.items c.put_passed.new.out.items c.put_passed.ensures.ok c.put_passed.ensures.err

pub returns-in-Some-2-clause-leads : goal.returns-in-Some-2-clause-leads
returns-in-Some-2-clause-leads g c =
    let w = c.args.world.now in
    let n = c.in-Some.ensures.some in
    let b = c.in-Some-2.block in
    let h : HasPassed c.in-Some.moment b w c.step.new.self = rw c.in-Some-2.is at c.in_ok-block.ensures.stepped in
    let is = block_comes w c.requires.whole c.in-Some.moment n.0 n.1 n.2 b h.next h.within in
    let later = not_back w.moment b.moment c.requires.whole.canonical h.next.canonical h.next.later in
    on_ok c.put_passed.result (record (state_of c.args.journal w) { moment = b.moment }, (next.block b, is, refl), alike_there c.args.journal (goes_on_to c.requires.whole later h.gone))

pub returns-in-Some-2-clause-tallied : goal.returns-in-Some-2-clause-tallied
returns-in-Some-2-clause-tallied g c =
    let w = c.args.world.now in
    let n = c.in-Some.ensures.some in
    let b = c.in-Some-2.block in
    let h : HasPassed c.in-Some.moment b w c.step.new.self = rw c.in-Some-2.is at c.in_ok-block.ensures.stepped in
    let is = block_comes w c.requires.whole c.in-Some.moment n.0 n.1 n.2 b h.next h.within in
    on_ok c.put_passed.result (one_tallied (IsNextIfAny (state_of c.args.journal w)) b c.count_of.result c.args.tally.now c.count_on.new.tally c.count_of.ensures (next.block b, is, refl) c.count_on.ensures)

-- ---- a leg comes
pub returns-in-None-clause-line : goal.returns-in-None-clause-line
returns-in-None-clause-line g c =
    let w = c.args.world.now in
    let n = c.in-Some.ensures.some in
    let m = c.in-Some.moment in
    let h : HasMoved m w c.step.new.self = rw c.in-None.is at c.in_ok-block.ensures.stepped in
    let is = leg_comes w c.requires.whole m n.0 n.1 n.2 h.nothing in
    puts_next (state_of c.args.journal w) c.requires.whole.canonical (now_line m) (next.leg m, is, refl) c.put_now.result c.args.out.now.items c.put_now.new.out.items c.put_now.ensures.ok c.put_now.ensures.err

pub returns-in-None-clause-leads : goal.returns-in-None-clause-leads
returns-in-None-clause-leads g c =
    let w = c.args.world.now in
    let n = c.in-Some.ensures.some in
    let m = c.in-Some.moment in
    let h : HasMoved m w c.step.new.self = rw c.in-None.is at c.in_ok-block.ensures.stepped in
    let is = leg_comes w c.requires.whole m n.0 n.1 n.2 h.nothing in
    let later = comes_later w c.requires.whole m n.0 n.1 n.2 in
    on_ok c.put_now.result (record (state_of c.args.journal w) { moment = m }, (next.leg m, is, refl), alike_there c.args.journal (goes_on_to c.requires.whole later h.gone))

pub returns-in-None-clause-tallied : goal.returns-in-None-clause-tallied
returns-in-None-clause-tallied g c =
    let w = c.args.world.now in
    let n = c.in-Some.ensures.some in
    let m = c.in-Some.moment in
    let h : HasMoved m w c.step.new.self = rw c.in-None.is at c.in_ok-block.ensures.stepped in
    let is = leg_comes w c.requires.whole m n.0 n.1 n.2 h.nothing in
    on_ok c.put_now.result (none_tallied (IsNextIfAny (state_of c.args.journal w)) c.args.tally.now (next.leg m, is, refl))
