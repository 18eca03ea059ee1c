use Rattle.std.proofs.Common.{◌<◌, ◌∙◌, sym, subst, List}
use Rattle.std.specs.List.{All}
use Rattle.kin_motion.specs.Live.{Certificate}
use Rattle.kin_motion.specs.Moments.{HoldsAt}
use Rattle.kin_motion.specs.Plans.{plans_scene}
use Rattle.kin_check.specs.declared.event.Event.{Event}
use Rattle.kin_check.specs.declared.event.Event.TheVariants.{Failure}
use Rattle.kin_check.specs.Events.{IsFirstBy}
use Rattle.kin_check.proofs.Coming.{IsOnTheWay, askable_at, fails_then, fewer_left, goes_on, hold_here, legs_left, looks_on, none_fails, nothing_by, sets_out}
use Rattle.kin_check.proofs.block.next_block.Goals as goal

pub first_event_by-requires-clause-askable : goal.first_event_by-requires-clause-askable
first_event_by-requires-clause-askable g c =
    askable_at c.args.state.now c.requires.sound c.args.from.now c.requires.from c.deref.result.now (c.deref.ensures.value ∙ c.in_ok-facts.ensures) c.args.from.now

pub first_event_by-requires-clause-hold : goal.first_event_by-requires-clause-hold
first_event_by-requires-clause-hold g c =
    let are = c.deref.ensures.value ∙ c.in_ok-facts.ensures in
    hold_here c.args.state.now c.requires.sound c.args.from.now c.requires.from c.args.last.now c.requires.last c.deref.result.now are
    (sets_out c.args.state.now c.requires.sound c.args.from.now c.requires.from c.args.last.now c.requires.last c.deref.result.now are c.requires.in_time)

pub loop-event-init : goal.loop-event-init
loop-event-init g c = record {
  at = c.args.from.now;
  on = sets_out c.args.state.now c.requires.sound c.args.from.now c.requires.from c.args.last.now c.requires.last c.in_ok-facts.facts.items c.in_ok-facts.ensures c.requires.in_time;
  first = subst (λ (cs : List Certificate). IsFirstBy c.args.state.now.plans c.args.from.now c.args.last.now cs c.in_ok-event.event) c.deref.ensures.value c.in_ok-event.ensures;
}

pub first_event_by-requires-in-Leg-clause-askable : goal.first_event_by-requires-in-Leg-clause-askable
first_event_by-requires-in-Leg-clause-askable g c =
    askable_at c.args.state.now c.requires.sound c.args.from.now c.requires.from c.deref-in-Leg.result.now (c.deref-in-Leg.ensures.value ∙ c.in_ok-facts.ensures) c.in-Leg.begins

pub first_event_by-requires-in-Leg-clause-hold : goal.first_event_by-requires-in-Leg-clause-hold
first_event_by-requires-in-Leg-clause-hold g c =
    let s = c.args.state.now in
    let last = c.args.last.now in
    let facts = c.in_ok-facts.facts.items in
    let look = c.loop-event.invariant in
    let begun = subst (IsFirstBy s.plans look.at last facts) c.in-Leg.is look.first in
    let on : IsOnTheWay s c.args.from.now last facts c.in-Leg.begins = goes_on s c.requires.sound c.args.from.now c.requires.from last c.requires.last facts c.in_ok-facts.ensures look.on begun in
    subst (All (λ (x : Certificate). HoldsAt (plans_scene s.plans) c.in-Leg.begins x.placed.fact)) (sym c.deref-in-Leg.ensures.value)
    (hold_here s c.requires.sound c.args.from.now c.requires.from last c.requires.last facts c.in_ok-facts.ensures on)

pub first_event_by-requires-in-Leg-clause-in_time : goal.first_event_by-requires-in-Leg-clause-in_time
first_event_by-requires-in-Leg-clause-in_time g c =
    let look = c.loop-event.invariant in
    let begun = subst (IsFirstBy c.args.state.now.plans look.at c.args.last.now c.in_ok-facts.facts.items) c.in-Leg.is look.first in
    begun.1

pub loop-event-smaller : goal.loop-event-smaller
loop-event-smaller g c =
    let s = c.args.state.now in
    let last = c.args.last.now in
    let facts = c.in_ok-facts.facts.items in
    let look = c.loop-event.invariant in
    let begun = subst (IsFirstBy s.plans look.at last facts) c.in-Leg.is look.first in
    let then = subst (λ (cs : List Certificate). IsFirstBy s.plans c.in-Leg.begins last cs c.in_ok-event-2.event) c.deref-in-Leg.ensures.value c.in_ok-event-2.ensures in
    subst (λ (event : Event). legs_left c.in_ok-event-2.event < legs_left event) (sym c.in-Leg.is) (fewer_left s.plans c.in-Leg.begins last facts c.in_ok-event-2.event begun.0.canonical then)

pub loop-event-preserved : goal.loop-event-preserved
loop-event-preserved g c =
    let s = c.args.state.now in
    let last = c.args.last.now in
    let facts = c.in_ok-facts.facts.items in
    let look = c.loop-event.invariant in
    looks_on s c.requires.sound c.args.from.now c.requires.from last c.requires.last facts c.in_ok-facts.ensures look.on c.in-Leg.begins c.loop-event.event c.in_ok-event-2.event c.in-Leg.is look.first
    (subst (λ (cs : List Certificate). IsFirstBy s.plans c.in-Leg.begins last cs c.in_ok-event-2.event) c.deref-in-Leg.ensures.value c.in_ok-event-2.ensures)

pub of-requires : goal.of-requires
of-requires g c = record {
  sound = c.requires.sound;
  askable = askable_at c.args.state.now c.requires.sound c.args.from.now c.requires.from c.deref-in-Failure.result.now (c.deref-in-Failure.ensures.value ∙ c.in_ok-facts.ensures) c.in-Failure.moment;
}

pub returns-in-Failure : goal.returns-in-Failure
returns-in-Failure g c =
    let s = c.args.state.now in
    let last = c.args.last.now in
    let facts = c.deref-in-Failure.result.now in
    let look = c.loop-event.invariant in
    let are = c.deref-in-Failure.ensures.value ∙ c.in_ok-facts.ensures in
    let on = subst (λ (cs : List Certificate). IsOnTheWay s c.args.from.now last cs look.at) (sym c.deref-in-Failure.ensures.value) look.on in
    let fails =
    subst (λ (cs : List Certificate). IsFirstBy s.plans look.at last cs (Failure c.in-Failure.moment)) (sym c.deref-in-Failure.ensures.value)
    (subst (IsFirstBy s.plans look.at last c.in_ok-facts.facts.items) c.in-Failure.is look.first) in
    fails_then s c.requires.sound c.args.from.now c.requires.from last c.requires.last facts are on c.in-Failure.moment c.in_ok-of-in-Failure.field-0 fails c.in_ok-of-in-Failure.ensures

pub returns : goal.returns
returns g c =
    let s = c.args.state.now in
    let last = c.args.last.now in
    let facts = c.in_ok-facts.facts.items in
    let look = c.loop-event.invariant in
    none_fails s c.requires.sound c.args.from.now c.requires.from last c.requires.last facts c.in_ok-facts.ensures look.on
    (nothing_by s.plans look.at last facts c.loop-event.event look.first c.in_default.not-Leg c.in_default-event.not-Failure)
