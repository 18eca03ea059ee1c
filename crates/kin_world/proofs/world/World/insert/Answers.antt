use Rattle.kin_world.proofs.Vocabulary.{Some, ◌<◌, ◌^◌, subst, sym, true, meaning, scene_at, stage_of, HasInserted, IsRepairCost, sight}
use Rattle.kin_world.proofs.Inside.{ease_inside, sound_inside, as_seen, as_inside}
use Rattle.kin_motion.specs.KeptOrder.{TreesKeepOrder}
use Rattle.kin_world.specs.declared.structure.Mark.TheVariants.{Enters}
use Rattle.kin_world.proofs.ChainOrder.{insertions_keep_order}
use Rattle.kin_world.proofs.Frugal.{marked_frugal}
use Rattle.kin_world.proofs.MarkLaws.{may_insert}
use Rattle.kin_world.proofs.LegLaws.{followed_in}
use Rattle.kin_world.proofs.SoundLaws.{ease_with, has_inserted}
use Rattle.kin_world.proofs.world.World.insert.Goals as goal

pub carry_out_each-requires : goal.carry_out_each-requires
carry_out_each-requires g c =
    let sound = sound_inside c.self.inside c.self.view_is c.self.invariant c.requires.whole in
    let free = rw (← c.self.view_is) at c.requires.free in
    let low = as_inside c.self.inside c.self.view_is c.self.invariant c.requires.whole (λ v. c.args.no < 2 ^ v.size) c.requires.room in
    record { marked = (c.self.inside.upkeep.motions, may_insert sound c.args.no c.args.m c.set.new.self free low c.set.ensures.value c.set.ensures.slow) }

pub invariant_of-self-2 : goal.invariant_of-self-2
invariant_of-self-2 g c = λ _.
    let ease = ease_inside c.self.inside c.self.view_is c.self.invariant c.requires.whole in
    let free = rw (← c.self.view_is) at c.requires.free in
    let low = as_inside c.self.inside c.self.view_is c.self.invariant c.requires.whole (λ v. c.args.no < 2 ^ v.size) c.requires.room in
    let s = stage_of c.self.inside.upkeep in
    ease_with (record s { motions = c.set.new.self }) c.in_ok-carry_out_each.ensures.settled c.carry_out_each.ensures.frame s.motions c.args.no (Some c.args.m) c.set.ensures.value c.self.inside.legs ease.size
    (followed_in ease.followed c.args.no c.args.m free c.set.ensures.value (subst (λ n. c.args.no < n) (sym ease.sound.in_order.fit.room) low) c.set.ensures.slow) ease.ahead

pub returns-clause-inserted : goal.returns-clause-inserted
returns-clause-inserted g c =
    let ease = ease_inside c.self.inside c.self.view_is c.self.invariant c.requires.whole in
    let free = rw (← c.self.view_is) at c.requires.free in
    let low = as_inside c.self.inside c.self.view_is c.self.invariant c.requires.whole (λ v. c.args.no < 2 ^ v.size) c.requires.room in
    let s = stage_of c.self.inside.upkeep in
    let then = ease_with (record s { motions = c.set.new.self }) c.in_ok-carry_out_each.ensures.settled c.carry_out_each.ensures.frame s.motions c.args.no (Some c.args.m) c.set.ensures.value c.self.inside.legs ease.size
    (followed_in ease.followed c.args.no c.args.m free c.set.ensures.value (subst (λ n. c.args.no < n) (sym ease.sound.in_order.fit.room) low) c.set.ensures.slow) ease.ahead in
    as_seen c.self.inside c.self.view_is c.self.invariant c.requires.whole (λ v. HasInserted c.args.no c.args.m v (meaning (stage_of c.carry_out_each.new.self) c.self.inside.legs.legs true))
    (has_inserted (record s { motions = c.set.new.self }) c.in_ok-carry_out_each.ensures.settled c.carry_out_each.ensures.frame s.motions c.args.no c.args.m c.set.ensures.value then)

pub returns-clause-cost : goal.returns-clause-cost
returns-clause-cost g c =
    let sound = sound_inside c.self.inside c.self.view_is c.self.invariant c.requires.whole in
    let free = rw (← c.self.view_is) at c.requires.free in
    let low = as_inside c.self.inside c.self.view_is c.self.invariant c.requires.whole (λ v. c.args.no < 2 ^ v.size) c.requires.room in
    let s = stage_of c.self.inside.upkeep in
    let trees = subst (λ ms. TreesKeepOrder s.size (sight s) (scene_at ms s.moment)) (sym c.set.ensures.value) (insertions_keep_order s.motions s.size c.args.no c.args.m s.moment free sound.in_order.canonical) in
    as_seen c.self.inside c.self.view_is c.self.invariant c.requires.whole (λ v. IsRepairCost v (meaning (stage_of c.carry_out_each.new.self) c.self.inside.legs.legs true) 0 c.args.steps.now c.carry_out_each.new.steps)
    (marked_frugal sound (Enters c.args.no) c.set.new.self (may_insert sound c.args.no c.args.m c.set.new.self free low c.set.ensures.value c.set.ensures.slow) trees c.carry_out_each.ensures.frame c.in_ok-carry_out_each.ensures.settled.sound c.in_ok-carry_out_each.ensures.cost c.self.inside.legs.legs c.self.inside.legs.legs)
