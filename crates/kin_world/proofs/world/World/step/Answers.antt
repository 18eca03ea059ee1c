use Rattle.kin_world.proofs.Vocabulary.{length, on_err}
use Rattle.kin_world.proofs.Inside.{at_due, begins_seen, cost_then, ease_inside, ease_then, fails_seen, fewer_then, frame_there, later_there, moved_cost, moved_seen, none_past_there, passes, ready_inside, ready_there}
use Rattle.kin_world.proofs.StepLaws.{seen_since}
use Rattle.kin_world.proofs.world.World.step.Goals as goal

pub cross-requires-clause-ready : goal.cross-requires-clause-ready
cross-requires-clause-ready g c = ready_inside c.self.inside c.self.view_is c.self.invariant c.requires.whole c.args.steps.now

pub cross-requires-clause-ahead : goal.cross-requires-clause-ahead
cross-requires-clause-ahead g c = (ease_inside c.self.inside c.self.view_is c.self.invariant c.requires.whole).ahead

pub returns-in_err-due-clause-cause : goal.returns-in_err-due-clause-cause
returns-in_err-due-clause-cause g c = on_err c.from_residual.result (begins_seen c.self.inside c.self.view_is c.self.invariant c.requires.whole c.args.steps.now c.args.limit.now c.in_err-due.ensures.cause)

pub returns-in_default-clause-stepped : goal.returns-in_default-clause-stepped
returns-in_default-clause-stepped g c = moved_seen c.self.inside c.self.view_is c.self.invariant c.requires.whole c.args.steps.now c.args.limit.now (rw c.in_default.is at c.in_ok-due.ensures.crossed)

pub returns-in_default-clause-cost : goal.returns-in_default-clause-cost
returns-in_default-clause-cost g c = moved_cost c.self.inside c.self.view_is c.self.invariant c.requires.whole c.args.steps.now c.args.limit.now (rw c.in_default.is at c.in_ok-due.ensures.crossed)

pub returns-in_err-block-clause-cause : goal.returns-in_err-block-clause-cause
returns-in_err-block-clause-cause g c = on_err c.from_residual-in_err-block.result (fails_seen c.self.inside c.self.view_is c.self.invariant c.requires.whole c.args.steps.now c.args.limit.now (rw c.in-Some.is at c.in_ok-due.ensures.crossed))

pub begin_due-requires : goal.begin_due-requires
begin_due-requires g c =
    let to = rw c.in-Some.is at c.in_ok-due.ensures.crossed in
    let frame = c.step.ensures.frame in
    record { ready = ready_there c.self.inside c.self.view_is c.self.invariant c.requires.whole c.args.steps.now c.args.limit.now to (frame_there to frame) (later_there to frame) c.in_ok-block.ensures.settled (none_past_there to frame) c.step.new.steps }

pub returns-in_err-begin_due-clause-cause : goal.returns-in_err-begin_due-clause-cause
returns-in_err-begin_due-clause-cause g c = on_err c.from_residual-in_err-begin_due.result (fails_seen c.self.inside c.self.view_is c.self.invariant c.requires.whole c.args.steps.now c.args.limit.now (rw c.in-Some.is at c.in_ok-due.ensures.crossed))

pub invariant_of-self-2 : goal.invariant_of-self-2
invariant_of-self-2 g c = λ _.
    let to = rw c.in-Some.is at c.in_ok-due.ensures.crossed in
    let frame = c.step.ensures.frame in
    let did = c.in_ok-begin_due.ensures in
    ease_then c.self.inside c.self.view_is c.self.invariant c.requires.whole c.args.steps.now c.args.limit.now to (frame_there to frame) (later_there to frame) c.in_ok-block.ensures.settled (none_past_there to frame) c.step.new.steps did.begun did.ahead did.moment

pub returns-clause-stepped : goal.returns-clause-stepped
returns-clause-stepped g c =
    let to = rw c.in-Some.is at c.in_ok-due.ensures.crossed in
    let frame = c.step.ensures.frame in
    let did = c.in_ok-begin_due.ensures in
    let done = c.in_ok-block.ensures in
    passes c.self.inside c.self.view_is c.self.invariant c.requires.whole c.args.steps.now c.args.limit.now to (frame_there to frame) (later_there to frame) done.settled (none_past_there to frame) c.step.new.steps did.begun did.ahead did.moment (at_due to frame) c.in_ok-block.block done.moment done.next

pub returns-clause-fewer : goal.returns-clause-fewer
returns-clause-fewer g c = λ some.
    let to = rw c.in-Some.is at c.in_ok-due.ensures.crossed in
    let frame = c.step.ensures.frame in
    let did = c.in_ok-begin_due.ensures in
    fewer_then c.self.inside c.self.view_is c.self.invariant c.requires.whole c.args.steps.now c.args.limit.now to (frame_there to frame) (later_there to frame) c.in_ok-block.ensures.settled (none_past_there to frame) c.step.new.steps did.begun did.ahead did.moment

pub returns-clause-cost : goal.returns-clause-cost
returns-clause-cost g c =
    let to = rw c.in-Some.is at c.in_ok-due.ensures.crossed in
    let frame = c.step.ensures.frame in
    let did = c.in_ok-begin_due.ensures in
    cost_then c.self.inside c.self.view_is c.self.invariant c.requires.whole c.args.steps.now c.args.limit.now to (frame_there to frame) (later_there to frame) c.in_ok-block.ensures.settled (none_past_there to frame) c.step.new.steps did.begun did.ahead did.moment (length c.in_ok-block.block.failures)
    (c.in_ok-block.ensures.cost _ (seen_since to.crossed))
