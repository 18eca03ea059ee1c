use Rattle.std.proofs.Common.{ap, ◌∙◌}
use Rattle.kin_links.specs.Pointers.{next_in}
use Rattle.kin_links.proofs.Calls.{node_there, prev_held, next_there, behind_apart, out_next, swapped_family, swapped, has_next}
use Rattle.kin_links.proofs.Slots.{closed}
use Rattle.kin_links.proofs.links.Links.swap_next.Goals as goal

pub index-requires : goal.index-requires
index-requires g c = node_there c.self.inside.arena.firsts.items c.self.inside.arena.nodes.slots c.args.self.now c.self.invariant c.self.view_is c.args.node.0 c.requires.0

pub detach-requires-clause-held : goal.detach-requires-clause-held
detach-requires-clause-held g c = λ gap e. prev_held c.self.inside.arena.firsts.items c.self.inside.arena.nodes.slots c.args.self.now c.self.invariant c.self.view_is c.args.node.0 gap c.requires.0 e

pub detach-requires-clause-next : goal.detach-requires-clause-next
detach-requires-clause-next g c = λ k e. next_there c.self.inside.arena.firsts.items c.self.inside.arena.nodes.slots c.args.self.now c.self.invariant c.self.view_is c.args.node.0 k c.requires.0 e

pub attach-requires-clause-apart : goal.attach-requires-clause-apart
attach-requires-clause-apart g c =
    behind_apart c.self.inside.arena.firsts.items c.self.inside.arena.nodes.slots c.args.self.now c.self.invariant c.self.view_is c.args.node.0 c.requires.0
    c.detach.new.self.firsts.items c.detach.new.self.nodes.slots c.detach.ensures.detached c.in-Some.next (ap next_in c.index.ensures ∙ c.in-Some.is)

pub attach-requires-clause-next : goal.attach-requires-clause-next
attach-requires-clause-next g c =
    out_next c.self.inside.arena.firsts.items c.self.inside.arena.nodes.slots c.args.self.now c.self.invariant c.self.view_is c.args.node.0 c.requires.0
    c.detach.new.self.firsts.items c.detach.new.self.nodes.slots c.detach.ensures.detached c.in-Some.next (ap next_in c.index.ensures ∙ c.in-Some.is)

pub invariant_of-self : goal.invariant_of-self
invariant_of-self g c =
    closed c.attach.new.self.firsts.items c.attach.new.self.nodes.slots _
    (swapped_family c.self.inside.arena.firsts.items c.self.inside.arena.nodes.slots c.args.self.now c.self.invariant c.self.view_is c.args.node.0 c.requires.0
    c.detach.new.self.firsts.items c.detach.new.self.nodes.slots c.detach.ensures.detached c.in-Some.next (ap next_in c.index.ensures ∙ c.in-Some.is)
    c.attach.new.self.firsts.items c.attach.new.self.nodes.slots c.attach.ensures.attached)

pub returns-in-Some : goal.returns-in-Some
returns-in-Some g c = λ s next there.
    swapped c.self.inside.arena.firsts.items c.self.inside.arena.nodes.slots c.args.self.now c.self.invariant c.self.view_is c.args.node.0 s
    c.detach.new.self.firsts.items c.detach.new.self.nodes.slots c.detach.ensures.detached c.in-Some.next (ap next_in c.index.ensures ∙ c.in-Some.is)
    c.attach.new.self.firsts.items c.attach.new.self.nodes.slots c.attach.ensures.attached next there

pub returns-in_default : goal.returns-in_default
returns-in_default g c = λ s next there.
    absurd
    (has_next c.self.inside.arena.firsts.items c.self.inside.arena.nodes.slots c.args.self.now c.self.invariant c.self.view_is c.args.node.0 c.requires.0 c.requires.1 (ap next_in c.index.ensures ∙ c.in_default.is))
