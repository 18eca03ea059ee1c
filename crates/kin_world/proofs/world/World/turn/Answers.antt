use Rattle.kin_world.proofs.Vocabulary.{subst, sym, w32, true, clean, Planning, meaning, stage_of, CanTurn, HasTurned, IsTurnCost}
use Rattle.kin_world.proofs.Inside.{ease_inside, sound_inside, as_seen, as_inside, whole_inside}
use Rattle.kin_world.proofs.Frugal.{turn_frugal}
use Rattle.kin_world.proofs.TurnLaws.{ease_turned, has_turned, may_take_up, no_cause}
use Rattle.kin_world.proofs.world.World.turn.Goals as goal

pub unreachable-requires : goal.unreachable-requires
unreachable-requires g c =
    let whole = whole_inside c.self.inside c.self.view_is c.self.invariant c.requires.whole in
    let not_whole = rw (clean w32 c.args.u c.ranges.u.sfits, clean w32 c.args.v c.ranges.v.sfits) at c.turned.ensures.not_whole in
    let outside = rw (clean w32 c.args.u c.ranges.u.sfits, clean w32 c.args.v c.ranges.v.sfits) at c.turned.ensures.outside in
    no_cause c.args.self.now c.args.no c.args.u c.args.v c.requires.turnable.0 c.requires.turnable.1 whole.canonical c.turned.result not_whole outside c.in_default.field-0 c.in_default.is

pub take_up-requires : goal.take_up-requires
take_up-requires g c = record { sound = sound_inside c.self.inside c.self.view_is c.self.invariant c.requires.whole; may = may_take_up (as_inside c.self.inside c.self.view_is c.self.invariant c.requires.whole (λ v. CanTurn c.args.no c.args.u c.args.v v c.in-Ok.motion) (rw (clean w32 c.args.u c.ranges.u.sfits, clean w32 c.args.v c.ranges.v.sfits) at c.in-Ok.ensures.turns)) }

pub invariant_of-self-2 : goal.invariant_of-self-2
invariant_of-self-2 g c = λ _.
    ease_turned (as_inside c.self.inside c.self.view_is c.self.invariant c.requires.whole (λ v. CanTurn c.args.no c.args.u c.args.v v c.in-Ok.motion) (rw (clean w32 c.args.u c.ranges.u.sfits, clean w32 c.args.v c.ranges.v.sfits) at c.in-Ok.ensures.turns)) (ease_inside c.self.inside c.self.view_is c.self.invariant c.requires.whole) c.in_ok-take_up.ensures.taken_up c.drop_of.ensures

pub returns-clause-turned : goal.returns-clause-turned
returns-clause-turned g c =
    let ease = ease_inside c.self.inside c.self.view_is c.self.invariant c.requires.whole in
    as_seen c.self.inside c.self.view_is c.self.invariant c.requires.whole (λ v. HasTurned c.args.no c.args.u c.args.v v (meaning (stage_of c.take_up.new.self) c.drop_of.new.self.legs true))
    (subst (λ (p : Planning). HasTurned c.args.no c.args.u c.args.v (meaning (stage_of c.self.inside.upkeep) c.self.inside.legs.legs true) (meaning (stage_of c.take_up.new.self) p.legs true)) (sym c.drop_of.ensures)
    (has_turned (as_inside c.self.inside c.self.view_is c.self.invariant c.requires.whole (λ v. CanTurn c.args.no c.args.u c.args.v v c.in-Ok.motion) (rw (clean w32 c.args.u c.ranges.u.sfits, clean w32 c.args.v c.ranges.v.sfits) at c.in-Ok.ensures.turns)) ease.followed ease.ahead c.in_ok-take_up.ensures.taken_up))

pub returns-clause-cost : goal.returns-clause-cost
returns-clause-cost g c =
    as_seen c.self.inside c.self.view_is c.self.invariant c.requires.whole (λ v. IsTurnCost c.args.no v c.args.steps.now c.take_up.new.steps)
    (turn_frugal (stage_of c.self.inside.upkeep) c.self.inside.legs.legs c.args.no c.args.steps.now c.take_up.new.steps c.in_ok-take_up.ensures.cost)
