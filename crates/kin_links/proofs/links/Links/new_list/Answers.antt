use Rattle.std.proofs.Common.{◌∙◌, sym, ap}
use Rattle.slab.specs.Slab.{Slab}
use Rattle.kin_links.specs.declared.node.Node.{Node}
use Rattle.kin_links.proofs.Calls.{family, listed_new}
use Rattle.kin_links.proofs.Slots.{closed, read, same_closed, same_read}
use Rattle.kin_links.proofs.links.Links.new_list.Goals as goal

pub invariant_of-self : goal.invariant_of-self
invariant_of-self g c = same_closed _ _ _ _ c.in_err-add_list.ensures.err (ap (λ (s : Slab (Node g.row.T.Denot)). s.slots) c.in_err-add_list.ensures.nodes) c.self.invariant

pub invariant_of-self-2 : goal.invariant_of-self-2
invariant_of-self-2 g c =
    same_closed _ _ _ _ c.in_ok-add_list.ensures.ok (ap (λ (s : Slab (Node g.row.T.Denot)). s.slots) c.in_ok-add_list.ensures.nodes)
    (closed _ _ _ (listed_new c.self.inside.arena.firsts.items c.self.inside.arena.nodes.slots c.args.self.now c.self.invariant c.self.view_is))

pub returns-clause-ok : goal.returns-clause-ok
returns-clause-ok g c = (
  c.count-list.ensures ∙ sym (family c.self.inside.arena.firsts.items c.self.inside.arena.nodes.slots c.args.self.now c.self.invariant c.self.view_is).count,
  same_read _ _ _ _ c.in_ok-add_list.ensures.ok (ap (λ (s : Slab (Node g.row.T.Denot)). s.slots) c.in_ok-add_list.ensures.nodes)
      ∙ read _ _ _ (listed_new c.self.inside.arena.firsts.items c.self.inside.arena.nodes.slots c.args.self.now c.self.invariant c.self.view_is),
)
