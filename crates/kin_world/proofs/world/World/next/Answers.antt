use Rattle.std.specs.Prelude.{IfSome}
use Rattle.kin_world.proofs.Vocabulary.{IsNone, Some, ◌↔◌, IsNextMoment, world_view}
use Rattle.kin_legs.specs.Nexts.{IsAtRest}
use Rattle.kin_legs.proofs.FollowedLaws.{leg_fair}
use Rattle.kin_world.proofs.Coming.{earlier_comes, failing_comes, not_at_rest, rests}
use Rattle.kin_world.proofs.Inside.{as_seen, ease_inside, sound_inside}
use Rattle.kin_world.proofs.NextStops.{as_first, first_in}
use Rattle.kin_world.proofs.world.World.next.Goals as goal

pub failing-failing-requires : goal.failing-failing-requires
failing-failing-requires c = (sound_inside c.self.inside c.self.view_is c.self.invariant c.requires).none_waits

pub returns-in_default-clause-some : goal.returns-in_default-clause-some
returns-in_default-clause-some c =
    let ease = ease_inside c.self.inside c.self.view_is c.self.invariant c.requires in
    as_seen c.self.inside c.self.view_is c.self.invariant c.requires (λ v. IfSome c.failing-failing.result (IsNextMoment (world_view v))) (failing_comes ease (c.first.ensures.2 c.in_default.is) c.failing-failing.result c.failing-failing.ensures.least)

pub returns-in_default-clause-none : goal.returns-in_default-clause-none
returns-in_default-clause-none c =
    let ease = ease_inside c.self.inside c.self.view_is c.self.invariant c.requires in
    as_seen c.self.inside c.self.view_is c.self.invariant c.requires (λ v. IsNone c.failing-failing.result ↔ IsAtRest (world_view v)) (rests ease (c.first.ensures.2 c.in_default.is) c.failing-failing.result c.failing-failing.ensures.least c.failing-failing.ensures.none)

pub beginning-requires : goal.beginning-requires
beginning-requires c =
    let ease = ease_inside c.self.inside c.self.view_is c.self.invariant c.requires in
    record { soon = (leg_fair ease.followed c.in-Some.leg (first_in c.self.inside.legs.legs c.first.result c.in-Some.leg c.first.ensures.0 c.first.ensures.1 c.in-Some.is)).soon }

pub returns-clause-some : goal.returns-clause-some
returns-clause-some c =
    let ease = ease_inside c.self.inside c.self.view_is c.self.invariant c.requires in
    as_seen c.self.inside c.self.view_is c.self.invariant c.requires (λ v. IsNextMoment (world_view v) c.first_of.result)
    (earlier_comes ease c.in-Some.leg c.first.ensures.0 (as_first c.self.inside.legs.legs c.first.result c.in-Some.leg c.first.ensures.0 c.first.ensures.1 c.in-Some.is) c.failing-failing.result c.failing-failing.ensures.least c.failing-failing.ensures.none c.first_of.result
    (rw c.beginning.ensures at c.first_of.ensures.none) (rw c.beginning.ensures at c.first_of.ensures.some))

pub returns-clause-none : goal.returns-clause-none
returns-clause-none c =
    let ease = ease_inside c.self.inside c.self.view_is c.self.invariant c.requires in
    as_seen c.self.inside c.self.view_is c.self.invariant c.requires (λ v. IsNone (Some c.first_of.result) ↔ IsAtRest (world_view v))
    (not_at_rest ease c.first_of.result
    (earlier_comes ease c.in-Some.leg c.first.ensures.0 (as_first c.self.inside.legs.legs c.first.result c.in-Some.leg c.first.ensures.0 c.first.ensures.1 c.in-Some.is) c.failing-failing.result c.failing-failing.ensures.least c.failing-failing.ensures.none c.first_of.result
    (rw c.beginning.ensures at c.first_of.ensures.none) (rw c.beginning.ensures at c.first_of.ensures.some)))
