use Rattle.kin_world.proofs.Vocabulary.{rules, arith, ◌≡◌, ◌↔◌, sym, ◌∙◌, w32, Err, clean, IsOutOfBounds, OutOfBounds, meaning, stage_of}
use Rattle.kin_world.proofs.TurnLaws.{can_turn, seen_so}
use Rattle.kin_world.proofs.world.World.turned.Goals as goal

pub returns-clause-turns : goal.returns-clause-turns
returns-clause-turns c = search (rules, arith, can_turn, seen_so, c.self.view_is, c.in-Some.is, clean, c.ranges.u.sfits, c.ranges.v.sfits, c.turned.ensures.turns)

pub returns-clause-not_whole : goal.returns-clause-not_whole
returns-clause-not_whole c = search (rules, arith, seen_so, c.self.view_is, c.in-Some.is, clean, c.ranges.u.sfits, c.ranges.v.sfits, c.turned.ensures.not_whole)

pub returns-clause-outside : goal.returns-clause-outside
returns-clause-outside c =
    let inner = meaning (stage_of c.self.inside.upkeep) c.self.inside.legs.legs c.self.inside.whole in
    seen_so (λ m had. (c.turned.result ≡ Err OutOfBounds) ↔ IsOutOfBounds m c.args.u c.args.v had) inner c.args.self.now c.args.no c.in-Some.motion c.self.view_is (sym c.get.ensures.motion ∙ c.in-Some.is)
    (rw (clean w32 c.args.u c.ranges.u.sfits, clean w32 c.args.v c.ranges.v.sfits) at c.turned.ensures.outside)
