use Rattle.std.proofs.Common.{refl, sym, ap, ◌∙◌}
use Rattle.std.proofs.lemmas.Option.{same_Some}
use Rattle.kin_links.specs.Pointers.{item_in}
use Rattle.kin_links.proofs.Calls.{node_there, prev_held, next_there, apart, gone_family, item_kept}
use Rattle.kin_links.proofs.Slots.{closed, read}
use Rattle.kin_links.proofs.links.Links.unlink.Goals as goal

pub detach-requires-clause-node : goal.detach-requires-clause-node
detach-requires-clause-node g c = node_there c.self.inside.arena.firsts.items c.self.inside.arena.nodes.slots c.args.self.now c.self.invariant c.self.view_is c.args.node.0 c.requires

pub detach-requires-clause-held : goal.detach-requires-clause-held
detach-requires-clause-held g c = λ gap e. prev_held c.self.inside.arena.firsts.items c.self.inside.arena.nodes.slots c.args.self.now c.self.invariant c.self.view_is c.args.node.0 gap c.requires e

pub detach-requires-clause-next : goal.detach-requires-clause-next
detach-requires-clause-next g c = λ k e. next_there c.self.inside.arena.firsts.items c.self.inside.arena.nodes.slots c.args.self.now c.self.invariant c.self.view_is c.args.node.0 k c.requires e

pub returns-clause-apart : goal.returns-clause-apart
returns-clause-apart g c = apart c.self.inside.arena.firsts.items c.self.inside.arena.nodes.slots c.args.self.now c.self.invariant c.self.view_is

pub invariant_of-self : goal.invariant_of-self
invariant_of-self g c =
    closed c.detach.new.self.firsts.items c.remove-node.new.self.slots _
    (gone_family c.self.inside.arena.firsts.items c.self.inside.arena.nodes.slots c.args.self.now c.self.invariant c.self.view_is c.args.node.0 c.requires
    c.detach.new.self.firsts.items c.detach.new.self.nodes.slots c.detach.ensures.detached c.detach.new.self.nodes c.remove-node.new.self refl c.remove-node.ensures.updates)

pub returns-clause-unlinked : goal.returns-clause-unlinked
returns-clause-unlinked g c = λ s. (
  same_Some _ _
      (sym (ap item_in c.remove-node.ensures.value)
      ∙ item_kept c.self.inside.arena.firsts.items c.self.inside.arena.nodes.slots c.args.self.now c.self.invariant c.self.view_is c.args.node.0 s
      c.detach.new.self.firsts.items c.detach.new.self.nodes.slots c.detach.ensures.detached),
  read c.detach.new.self.firsts.items c.remove-node.new.self.slots _
      (gone_family c.self.inside.arena.firsts.items c.self.inside.arena.nodes.slots c.args.self.now c.self.invariant c.self.view_is c.args.node.0 s
      c.detach.new.self.firsts.items c.detach.new.self.nodes.slots c.detach.ensures.detached c.detach.new.self.nodes c.remove-node.new.self refl c.remove-node.ensures.updates),
)
