use Rattle.std.proofs.Common.{◌∙◌, sym, subst, List}
use Rattle.kin_motion.specs.Live.{Certificate}
use Rattle.kin_check.specs.Events.{IsFirst}
use Rattle.kin_check.proofs.Coming.{askable_at, failures_come, here_too, hold_told, leg_comes, nothing_comes}
use Rattle.kin_check.proofs.next.coming.Goals as goal

pub first_event-requires-clause-askable : goal.first_event-requires-clause-askable
first_event-requires-clause-askable g c =
    let are = c.deref.ensures.value ∙ c.in_ok-facts.ensures in
    askable_at c.args.state.now c.requires c.moment-now.result (here_too c.args.state.now c.requires c.moment-now.result c.moment-now.ensures c.deref.result.now are) c.deref.result.now are
    c.moment-now.result

pub first_event-requires-clause-hold : goal.first_event-requires-clause-hold
first_event-requires-clause-hold g c = hold_told c.args.state.now c.requires c.moment-now.result c.moment-now.ensures c.deref.result.now (c.deref.ensures.value ∙ c.in_ok-facts.ensures)

pub of-requires-clause-askable : goal.of-requires-clause-askable
of-requires-clause-askable g c =
    let are = c.deref-in-Failure.ensures.value ∙ c.in_ok-facts.ensures in
    askable_at c.args.state.now c.requires c.moment-now.result (here_too c.args.state.now c.requires c.moment-now.result c.moment-now.ensures c.deref-in-Failure.result.now are)
    c.deref-in-Failure.result.now are c.in-Failure.moment

pub returns-in-Failure : goal.returns-in-Failure
returns-in-Failure g c =
    let facts = c.deref-in-Failure.result.now in
    let are = c.deref-in-Failure.ensures.value ∙ c.in_ok-facts.ensures in
    failures_come c.args.state.now c.requires c.moment-now.result c.moment-now.ensures facts are c.in_ok-moment.field-0
    (subst (λ (cs : List Certificate). IsFirst c.args.state.now.plans c.moment-now.result cs c.in_ok-moment.field-0) (c.deref.ensures.value ∙ sym c.deref-in-Failure.ensures.value)
    c.in_ok-moment.ensures) c.in-Failure.moment
    c.in_ok-of-in-Failure.field-0 c.in-Failure.is c.in_ok-of-in-Failure.ensures

pub returns-in-Leg : goal.returns-in-Leg
returns-in-Leg g c =
    leg_comes c.args.state.now c.requires c.moment-now.result c.moment-now.ensures c.deref.result.now (c.deref.ensures.value ∙ c.in_ok-facts.ensures) c.in_ok-moment.field-0 c.in_ok-moment.ensures
    c.in-Leg.moment c.in-Leg.is

pub returns : goal.returns
returns g c =
    nothing_comes c.args.state.now c.requires c.moment-now.result c.moment-now.ensures c.deref.result.now (c.deref.ensures.value ∙ c.in_ok-facts.ensures) c.in_ok-moment.field-0 c.in_ok-moment.ensures
    c.in-Nothing.is
