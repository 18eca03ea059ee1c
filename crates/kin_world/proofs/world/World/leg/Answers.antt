use Rattle.kin_world.proofs.Vocabulary.{ap, subst, sym, ◌∙◌, ◌<◌, ◌^◌, w32, true, IsTrue, clean, is_live, meaning, stage_of, CanPlan, HasPlanned}
use Rattle.kin_world.proofs.Inside.{as_inside, as_seen, ease_inside}
use Rattle.kin_world.proofs.LegLaws.{ease_planned, has_planned, later_leg, no_error, plan_live}
use Rattle.kin_world.proofs.MarkLaws.{live_within}
use Rattle.kin_world.proofs.world.World.leg.Goals as goal

pub planned-requires-clause-live : goal.planned-requires-clause-live
planned-requires-clause-live c =
    let ease = ease_inside c.self.inside c.self.view_is c.self.invariant c.requires.whole in
    as_seen c.self.inside c.self.view_is c.self.invariant c.requires.whole (λ v. IsTrue (is_live v.motions c.args.no)) (plan_live ease c.args.no (as_inside c.self.inside c.self.view_is c.self.invariant c.requires.whole (λ v. CanPlan c.args.no c.args.at c.args.u c.args.v v c.requires.plannable.0) c.requires.plannable.1))

pub unreachable-requires : goal.unreachable-requires
unreachable-requires c =
    let ease = ease_inside c.self.inside c.self.view_is c.self.invariant c.requires.whole in
    let can = as_inside c.self.inside c.self.view_is c.self.invariant c.requires.whole (λ v. CanPlan c.args.no c.args.at c.args.u c.args.v v c.requires.plannable.0) c.requires.plannable.1 in
    let outside = rw (clean w32 c.args.u c.ranges.u.sfits, clean w32 c.args.v c.ranges.v.sfits) at c.planned.ensures.outside in
    no_error ease c.args.no can c.requires.soon c.planned.result (rw (← c.self.view_is) at c.planned.ensures.past) (rw (← c.self.view_is) at c.planned.ensures.planned) (rw (← c.self.view_is) at outside) c.in_default.field-0 c.in_default.is

pub add-requires-clause-within : goal.add-requires-clause-within
add-requires-clause-within c =
    let ease = ease_inside c.self.inside c.self.view_is c.self.invariant c.requires.whole in
    let can = as_inside c.self.inside c.self.view_is c.self.invariant c.requires.whole (λ v. CanPlan c.args.no c.args.at c.args.u c.args.v v c.in-Ok.m) (rw (clean w32 c.args.u c.ranges.u.sfits, clean w32 c.args.v c.ranges.v.sfits) at c.in-Ok.ensures.plans) in
    subst (λ n. c.args.no < n) (ease.sound.in_order.fit.room ∙ ap (λ n. 2 ^ n) (sym ease.size)) (live_within c.self.inside.upkeep.motions c.args.no (plan_live ease c.args.no can))

pub add-requires-clause-later : goal.add-requires-clause-later
add-requires-clause-later c =
    let ease = ease_inside c.self.inside c.self.view_is c.self.invariant c.requires.whole in
    let can = as_inside c.self.inside c.self.view_is c.self.invariant c.requires.whole (λ v. CanPlan c.args.no c.args.at c.args.u c.args.v v c.in-Ok.m) (rw (clean w32 c.args.u c.ranges.u.sfits, clean w32 c.args.v c.ranges.v.sfits) at c.in-Ok.ensures.plans) in
    later_leg ease c.args.no can c.requires.soon

pub invariant_of-self-2 : goal.invariant_of-self-2
invariant_of-self-2 c = λ _.
    let ease = ease_inside c.self.inside c.self.view_is c.self.invariant c.requires.whole in
    let can = as_inside c.self.inside c.self.view_is c.self.invariant c.requires.whole (λ v. CanPlan c.args.no c.args.at c.args.u c.args.v v c.in-Ok.m) (rw (clean w32 c.args.u c.ranges.u.sfits, clean w32 c.args.v c.ranges.v.sfits) at c.in-Ok.ensures.plans) in
    ease_planned ease c.args.no can c.requires.soon c.in_ok-add.ensures.ok c.recall_rising.ensures

pub returns-clause-planned : goal.returns-clause-planned
returns-clause-planned c =
    let ease = ease_inside c.self.inside c.self.view_is c.self.invariant c.requires.whole in
    let can = as_inside c.self.inside c.self.view_is c.self.invariant c.requires.whole (λ v. CanPlan c.args.no c.args.at c.args.u c.args.v v c.in-Ok.m) (rw (clean w32 c.args.u c.ranges.u.sfits, clean w32 c.args.v c.ranges.v.sfits) at c.in-Ok.ensures.plans) in
    as_seen c.self.inside c.self.view_is c.self.invariant c.requires.whole (λ v. HasPlanned c.args.no c.args.at c.args.u c.args.v v (meaning (stage_of c.self.inside.upkeep) c.add.new.self.legs true))
    (has_planned ease c.args.no can c.requires.soon c.in_ok-add.ensures.ok c.recall_rising.ensures)
