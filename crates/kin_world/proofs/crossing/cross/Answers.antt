use Rattle.std.proofs.Common.{arith}
use Rattle.kin_world.proofs.Vocabulary.{refl, ◌∙◌}
use Rattle.kin_algebra.proofs.Results.{on_err}
use Rattle.kin_legs.proofs.FollowedLaws.{leg_fair}
use Rattle.kin_world.proofs.Ways.{arrives, begins_within, fails_here, goes_on_from_there, goes_there, not_past, sets_out}
use Rattle.kin_world.proofs.crossing.cross.Goals as goal

pub loop-due-init : goal.loop-due-init
loop-due-init g c = record { crossed = sets_out c.requires.ready; ahead = c.requires.ahead; later = c.requires.later; keeps = refl }

pub next_stop-stop-requires-clause-fair : goal.next_stop-stop-requires-clause-fair
next_stop-stop-requires-clause-fair g c = leg_fair c.loop-due.invariant.crossed.ready.followed

pub due_within-requires : goal.due_within-requires
due_within-requires g c = c.loop-due.invariant.crossed.ready.sound.none_waits

pub returns-in-Some-clause-crossed : goal.returns-in-Some-clause-crossed
returns-in-Some-clause-crossed g c =
    let h = c.loop-due.invariant in
    let one = c.next_stop-stop.ensures.count in
    let two = c.in-Some.ensures.count in
    fails_here h.crossed h.ahead c.requires.canonical h.later c.next_stop-stop.ensures.value c.due_within.new.steps (omega (arith, one, two)) c.in-Some.due c.in-Some.ensures.value

pub begin_due-requires : goal.begin_due-requires
begin_due-requires g c =
    let h = c.loop-due.invariant in
    let one = c.next_stop-stop.ensures.count in
    let two = c.in_default.ensures.count in
    record { ready = (goes_there h.crossed h.ahead c.requires.canonical h.later c.next_stop-stop.ensures.value c.in_default.ensures.value c.due_within.new.steps (omega (arith, one, two))).ready }

pub returns-in_err-some-clause-cause : goal.returns-in_err-some-clause-cause
returns-in_err-some-clause-cause g c =
    let h = c.loop-due.invariant in
    let l = c.in_err-some.ensures.cause in
    on_err c.from_residual.result (begins_within h.crossed h.ahead c.requires.canonical h.later c.next_stop-stop.ensures.value l.0 l.1 l.2)

pub returns-then-not-some-clause-crossed : goal.returns-then-not-some-clause-crossed
returns-then-not-some-clause-crossed g c =
    let h = c.loop-due.invariant in
    let one = c.next_stop-stop.ensures.count in
    let two = c.in_default.ensures.count in
    let did = c.in_ok-some.ensures in
    let none = c.in_default.ensures.value in
    let there = goes_there h.crossed h.ahead c.requires.canonical h.later c.next_stop-stop.ensures.value none c.due_within.new.steps (omega (arith, one, two)) in
    arrives h.crossed h.ahead c.requires.canonical h.later c.next_stop-stop.ensures.value none c.due_within.new.steps (omega (arith, one, two)) (did.begun _ _ there) did.ahead did.moment did.fewer (did.none c.if-not-some.true)

pub loop-due-smaller : goal.loop-due-smaller
loop-due-smaller g c = c.in_ok-some.ensures.some c.if-not-some.false

pub loop-due-preserved : goal.loop-due-preserved
loop-due-preserved g c =
    let h = c.loop-due.invariant in
    let one = c.next_stop-stop.ensures.count in
    let two = c.in_default.ensures.count in
    let did = c.in_ok-some.ensures in
    let none = c.in_default.ensures.value in
    let there = goes_there h.crossed h.ahead c.requires.canonical h.later c.next_stop-stop.ensures.value none c.due_within.new.steps (omega (arith, one, two)) in
    record {
      crossed = goes_on_from_there h.crossed h.ahead c.requires.canonical h.later c.next_stop-stop.ensures.value none c.due_within.new.steps (omega (arith, one, two)) (did.begun _ _ there) did.ahead did.moment (did.some c.if-not-some.false);
      ahead = did.ahead;
      later = not_past h.crossed h.ahead c.requires.canonical h.later c.next_stop-stop.ensures.value none c.due_within.new.steps (omega (arith, one, two)) (did.begun _ _ there) did.ahead did.moment;
      keeps = c.begin_due.ensures.keeps ∙ h.keeps;
    }
