use Rattle.kin_world.proofs.Vocabulary.{None, ap, ◌∙◌, slice_set, AreAhead, AreFollowed, Planning, subst, sym, ◌<◌, true, meaning, scene_at, stage_of, HasRemoved, IsRepairCost, sight}
use Rattle.kin_world.proofs.Inside.{ease_inside, sound_inside, as_seen}
use Rattle.kin_motion.specs.KeptOrder.{TreesKeepOrder}
use Rattle.kin_world.specs.declared.structure.Mark.TheVariants.{Leaves}
use Rattle.kin_world.proofs.ChainOrder.{removals_keep_order}
use Rattle.kin_world.proofs.Frugal.{marked_frugal}
use Rattle.kin_world.proofs.MarkLaws.{live_within, may_remove}
use Rattle.kin_world.proofs.LegLaws.{followed_out}
use Rattle.kin_world.proofs.SoundLaws.{ease_with, has_removed}
use Rattle.kin_world.proofs.TurnLaws.{ahead_without}
use Rattle.kin_world.proofs.world.World.remove.Goals as goal

pub carry_out_each-requires : goal.carry_out_each-requires
carry_out_each-requires g c =
    let sound = sound_inside c.self.inside c.self.view_is c.self.invariant c.requires.whole in
    let live = rw (← c.self.view_is) at c.requires.live in
    let low = subst (λ n. c.args.no < n) sound.in_order.fit.room (live_within c.self.inside.upkeep.motions c.args.no live) in
    record { marked = (c.self.inside.upkeep.motions, may_remove sound c.args.no c.clear.new.self live low c.clear.ensures) }

pub invariant_of-self-2 : goal.invariant_of-self-2
invariant_of-self-2 g c = λ _.
    let ease = ease_inside c.self.inside c.self.view_is c.self.invariant c.requires.whole in
    let s = stage_of c.self.inside.upkeep in
    ease_with (record s { motions = c.clear.new.self }) c.in_ok-carry_out_each.ensures.settled c.carry_out_each.ensures.frame s.motions c.args.no None c.clear.ensures c.drop_of.new.self (ap (λ (p : Planning). p.size) c.drop_of.ensures ∙ ease.size)
    (subst (λ (p : Planning). AreFollowed (slice_set s.motions c.args.no None) p.legs) (sym c.drop_of.ensures) (followed_out ease.followed c.args.no))
    (subst (λ (p : Planning). AreAhead s.moment p.legs) (sym c.drop_of.ensures) (ahead_without s.moment c.self.inside.legs.legs c.args.no ease.ahead))

pub returns-clause-removed : goal.returns-clause-removed
returns-clause-removed g c =
    let ease = ease_inside c.self.inside c.self.view_is c.self.invariant c.requires.whole in
    let s = stage_of c.self.inside.upkeep in
    let then = ease_with (record s { motions = c.clear.new.self }) c.in_ok-carry_out_each.ensures.settled c.carry_out_each.ensures.frame s.motions c.args.no None c.clear.ensures c.drop_of.new.self (ap (λ (p : Planning). p.size) c.drop_of.ensures ∙ ease.size)
    (subst (λ (p : Planning). AreFollowed (slice_set s.motions c.args.no None) p.legs) (sym c.drop_of.ensures) (followed_out ease.followed c.args.no))
    (subst (λ (p : Planning). AreAhead s.moment p.legs) (sym c.drop_of.ensures) (ahead_without s.moment c.self.inside.legs.legs c.args.no ease.ahead)) in
    as_seen c.self.inside c.self.view_is c.self.invariant c.requires.whole (λ v. HasRemoved c.args.no v (meaning (stage_of c.carry_out_each.new.self) c.drop_of.new.self.legs true))
    (has_removed (record s { motions = c.clear.new.self }) c.in_ok-carry_out_each.ensures.settled c.carry_out_each.ensures.frame s.motions c.args.no c.clear.ensures c.self.inside.legs.legs (ap (λ (p : Planning). p.legs) c.drop_of.ensures) then)

pub returns-clause-cost : goal.returns-clause-cost
returns-clause-cost g c =
    let sound = sound_inside c.self.inside c.self.view_is c.self.invariant c.requires.whole in
    let live = rw (← c.self.view_is) at c.requires.live in
    let low = subst (λ n. c.args.no < n) sound.in_order.fit.room (live_within c.self.inside.upkeep.motions c.args.no live) in
    let s = stage_of c.self.inside.upkeep in
    let trees = subst (λ ms. TreesKeepOrder s.size (sight s) (scene_at ms s.moment)) (sym c.clear.ensures) (removals_keep_order s.motions s.size c.args.no s.moment sound.in_order.canonical) in
    as_seen c.self.inside c.self.view_is c.self.invariant c.requires.whole (λ v. IsRepairCost v (meaning (stage_of c.carry_out_each.new.self) c.drop_of.new.self.legs true) 0 c.args.steps.now c.carry_out_each.new.steps)
    (marked_frugal sound (Leaves c.args.no) c.clear.new.self (may_remove sound c.args.no c.clear.new.self live low c.clear.ensures) trees c.carry_out_each.ensures.frame c.in_ok-carry_out_each.ensures.settled.sound c.in_ok-carry_out_each.ensures.cost c.self.inside.legs.legs c.drop_of.new.self.legs)
