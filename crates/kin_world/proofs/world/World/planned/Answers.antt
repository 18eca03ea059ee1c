use Rattle.std.specs.Prelude.{IfOk}
use Rattle.kin_world.proofs.Vocabulary.{◌≡◌, ◌↔◌, ◌∙◌, sym, w32, Err, Some, IsEarlier, clean, CanPlan, world_plans}
use Rattle.kin_motion.specs.Plans.{Plan}
use Rattle.kin_motion.specs.Turning.{just_at}
use Rattle.kin_legs.specs.Paths.{plan_of, whole}
use Rattle.kin_legs.specs.Scheduling.{FollowsTooFast, HasLegFrom, IsOver}
use Rattle.kin_world.specs.declared.planning.LegError.TheVariants as error
use Rattle.kin_world.proofs.Inside.{as_seen, ease_inside}
use Rattle.kin_world.proofs.LegLaws.{can_plan, known_by}
use Rattle.kin_world.proofs.world.World.planned.Goals as goal

pub returns-clause-plans : goal.returns-clause-plans
returns-clause-plans c =
    let ease = ease_inside c.self.inside c.self.view_is c.self.invariant c.requires.whole in
    let had = sym c.get.ensures.motion ∙ c.in-Some.is in
    let may = rw (clean w32 c.args.u c.ranges.u.sfits, clean w32 c.args.v c.ranges.v.sfits) at c.following.ensures.may in
    as_seen c.self.inside c.self.view_is c.self.invariant c.requires.whole (λ v. IfOk c.following.result (CanPlan c.args.no c.args.at c.args.u c.args.v v))
    (can_plan ease c.args.no c.args.at c.args.u c.args.v c.in-Some.motion had c.following.result (λ path is. may path (known_by ease c.args.no c.in-Some.motion had c.last.result c.last.ensures path is)))

pub returns-clause-past : goal.returns-clause-past
returns-clause-past c = as_seen c.self.inside c.self.view_is c.self.invariant c.requires.whole (λ v. (c.following.result ≡ Err error.Past) ↔ IsOver v.moment c.args.at) c.following.ensures.past

pub returns-clause-planned : goal.returns-clause-planned
returns-clause-planned c =
    let ease = ease_inside c.self.inside c.self.view_is c.self.invariant c.requires.whole in
    let had = sym c.get.ensures.motion ∙ c.in-Some.is in
    as_seen c.self.inside c.self.view_is c.self.invariant c.requires.whole (λ v. (path : Plan) → plan_of (world_plans v) c.args.no ≡ Some path → (c.following.result ≡ Err error.Planned) ↔ (IsEarlier v.moment (just_at (whole c.args.at)) × HasLegFrom path c.args.at))
    (λ path is. c.following.ensures.planned path (known_by ease c.args.no c.in-Some.motion had c.last.result c.last.ensures path is))

pub returns-clause-outside : goal.returns-clause-outside
returns-clause-outside c =
    let ease = ease_inside c.self.inside c.self.view_is c.self.invariant c.requires.whole in
    let had = sym c.get.ensures.motion ∙ c.in-Some.is in
    let outside = rw (clean w32 c.args.u c.ranges.u.sfits, clean w32 c.args.v c.ranges.v.sfits) at c.following.ensures.outside in
    as_seen c.self.inside c.self.view_is c.self.invariant c.requires.whole (λ v. (path : Plan) → plan_of (world_plans v) c.args.no ≡ Some path → (c.following.result ≡ Err error.OutOfBounds) ↔ FollowsTooFast v.moment path c.args.at c.args.u c.args.v)
    (λ path is. outside path (known_by ease c.args.no c.in-Some.motion had c.last.result c.last.ensures path is))
