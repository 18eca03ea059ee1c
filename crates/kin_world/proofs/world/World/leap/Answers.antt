use Rattle.kin_world.proofs.Vocabulary.{on_err}
use Rattle.kin_legs.proofs.FollowedLaws.{leg_fair}
use Rattle.kin_world.proofs.Inside.{begins_seen, due_by_stop, ease_inside, ease_then, fails_seen, fewer_then, leaves_behind, moved_seen, none_past_landed, ready_inside, ready_there, within_landed}
use Rattle.kin_world.proofs.world.World.leap.Goals as goal

pub cross-requires-clause-ready : goal.cross-requires-clause-ready
cross-requires-clause-ready g c = ready_inside c.self.inside c.self.view_is c.self.invariant c.requires.whole c.args.steps.now

pub cross-requires-clause-ahead : goal.cross-requires-clause-ahead
cross-requires-clause-ahead g c = (ease_inside c.self.inside c.self.view_is c.self.invariant c.requires.whole).ahead

pub returns-in_err-due-clause-cause : goal.returns-in_err-due-clause-cause
returns-in_err-due-clause-cause g c = on_err c.from_residual.result (begins_seen c.self.inside c.self.view_is c.self.invariant c.requires.whole c.args.steps.now c.args.limit.now c.in_err-due.ensures.cause)

pub returns-in_default-clause-leapt : goal.returns-in_default-clause-leapt
returns-in_default-clause-leapt g c = moved_seen c.self.inside c.self.view_is c.self.invariant c.requires.whole c.args.steps.now c.args.limit.now (rw c.in_default.is at c.in_ok-due.ensures.crossed)

pub next_stop-stop-requires-clause-fair : goal.next_stop-stop-requires-clause-fair
next_stop-stop-requires-clause-fair g c = leg_fair (rw c.in-Some.is at c.in_ok-due.ensures.crossed).crossed.ready.followed

pub leap-requires-clause-within : goal.leap-requires-clause-within
leap-requires-clause-within g c = due_by_stop (rw c.in-Some.is at c.in_ok-due.ensures.crossed) c.next_stop-stop.ensures.value

pub returns-in_err-leap-clause-cause : goal.returns-in_err-leap-clause-cause
returns-in_err-leap-clause-cause g c = on_err c.from_residual-in_err-leap.result (fails_seen c.self.inside c.self.view_is c.self.invariant c.requires.whole c.args.steps.now c.args.limit.now (rw c.in-Some.is at c.in_ok-due.ensures.crossed))

pub begin_due-requires : goal.begin_due-requires
begin_due-requires g c =
    let to = rw c.in-Some.is at c.in_ok-due.ensures.crossed in
    let landed = c.in_ok-leap.ensures.landed in
    record { ready = ready_there c.self.inside c.self.view_is c.self.invariant c.requires.whole c.args.steps.now c.args.limit.now to c.leap.ensures.frame landed.later landed.settled (none_past_landed to c.next_stop-stop.ensures.value landed) c.leap.new.steps }

pub returns-in_err-begin_due-clause-cause : goal.returns-in_err-begin_due-clause-cause
returns-in_err-begin_due-clause-cause g c = on_err c.from_residual-in_err-begin_due.result (fails_seen c.self.inside c.self.view_is c.self.invariant c.requires.whole c.args.steps.now c.args.limit.now (rw c.in-Some.is at c.in_ok-due.ensures.crossed))

pub invariant_of-self-2 : goal.invariant_of-self-2
invariant_of-self-2 g c = λ _.
    let to = rw c.in-Some.is at c.in_ok-due.ensures.crossed in
    let landed = c.in_ok-leap.ensures.landed in
    let did = c.in_ok-begin_due.ensures in
    ease_then c.self.inside c.self.view_is c.self.invariant c.requires.whole c.args.steps.now c.args.limit.now to c.leap.ensures.frame landed.later landed.settled (none_past_landed to c.next_stop-stop.ensures.value landed) c.leap.new.steps did.begun did.ahead did.moment

pub returns-clause-leapt : goal.returns-clause-leapt
returns-clause-leapt g c =
    let to = rw c.in-Some.is at c.in_ok-due.ensures.crossed in
    let landed = c.in_ok-leap.ensures.landed in
    let did = c.in_ok-begin_due.ensures in
    leaves_behind c.self.inside c.self.view_is c.self.invariant c.requires.whole c.args.steps.now c.args.limit.now to c.leap.ensures.frame landed.later landed.settled (none_past_landed to c.next_stop-stop.ensures.value landed) c.leap.new.steps did.begun did.ahead did.moment
    landed.past (within_landed to c.next_stop-stop.ensures.value landed c.recall_canonical.ensures)

pub returns-clause-fewer : goal.returns-clause-fewer
returns-clause-fewer g c = λ some.
    let to = rw c.in-Some.is at c.in_ok-due.ensures.crossed in
    let landed = c.in_ok-leap.ensures.landed in
    let did = c.in_ok-begin_due.ensures in
    fewer_then c.self.inside c.self.view_is c.self.invariant c.requires.whole c.args.steps.now c.args.limit.now to c.leap.ensures.frame landed.later landed.settled (none_past_landed to c.next_stop-stop.ensures.value landed) c.leap.new.steps did.begun did.ahead did.moment
