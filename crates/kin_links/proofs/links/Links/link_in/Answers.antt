use Rattle.std.proofs.Common.{◌∙◌, sym, ap, subst, rules, List, Option}
use Rattle.std.specs.Prelude.{slice_index_or, None}
use Rattle.slab.specs.Slab.{Slab}
use Rattle.kin_links.specs.declared.node.Node.{Node}
use Rattle.kin_links.specs.Pointers.{IsFamily, pointers, lists_of}
use Rattle.kin_links.proofs.Calls.{attachable, linked_family, has_linked}
use Rattle.kin_links.proofs.Slots.{closed}
use Rattle.kin_links.proofs.links.Links.link_in.Goals as goal

pub invariant_of-self : goal.invariant_of-self
invariant_of-self g c =
    let same = ap (λ (s : Slab (Node g.row.T.Denot)). s.slots) (sym c.reserve.ensures.rest_kept) in
    subst (λ (slots : List (Option (Node g.row.T.Denot))). IsFamily (pointers c.self.inside.arena.firsts.items slots) (lists_of (pointers c.self.inside.arena.firsts.items slots))) same c.self.invariant

pub attach-requires : goal.attach-requires
attach-requires g c =
    let same = ap (λ (s : Slab (Node g.row.T.Denot)). s.slots) c.reserve.ensures.rest_kept in
    let r = c.requires in
    let a = attachable c.self.inside.arena.firsts.items c.self.inside.arena.nodes.slots c.args.self.now c.self.invariant c.self.view_is
    c.insert_reserved-node.new.self c.insert_reserved-node.result _ (ap (λ slots. slice_index_or slots c.insert_reserved-node.result None) (sym same) ∙ c.insert_reserved-node.ensures.was_vacant) c.reserve.new.self same c.insert_reserved-node.ensures.updates
    r.0 r.1 r.2 c.args.gap r.3 r.4 in
    record { node = search rules; apart = a.apart; held = a.held; next = a.next }

pub invariant_of-self-2 : goal.invariant_of-self-2
invariant_of-self-2 g c =
    let same = ap (λ (s : Slab (Node g.row.T.Denot)). s.slots) c.reserve.ensures.rest_kept in
    let r = c.requires in
    closed c.attach.new.self.firsts.items c.attach.new.self.nodes.slots _
    (linked_family c.self.inside.arena.firsts.items c.self.inside.arena.nodes.slots c.args.self.now c.self.invariant c.self.view_is
    c.insert_reserved-node.new.self c.insert_reserved-node.result _ (ap (λ slots. slice_index_or slots c.insert_reserved-node.result None) (sym same) ∙ c.insert_reserved-node.ensures.was_vacant) c.reserve.new.self same c.insert_reserved-node.ensures.updates
    r.0 r.1 r.2 c.args.gap r.3 r.4 c.attach.new.self.firsts.items c.attach.new.self.nodes.slots c.attach.ensures.attached)

pub returns-clause-ok : goal.returns-clause-ok
returns-clause-ok g c = λ l i xs listed at-gap.
    let same = ap (λ (s : Slab (Node g.row.T.Denot)). s.slots) c.reserve.ensures.rest_kept in
    has_linked c.self.inside.arena.firsts.items c.self.inside.arena.nodes.slots c.args.self.now c.self.invariant c.self.view_is
    c.insert_reserved-node.new.self c.insert_reserved-node.result _ (ap (λ slots. slice_index_or slots c.insert_reserved-node.result None) (sym same) ∙ c.insert_reserved-node.ensures.was_vacant) c.reserve.new.self same c.insert_reserved-node.ensures.updates
    l i xs c.args.gap listed at-gap c.attach.new.self.firsts.items c.attach.new.self.nodes.slots c.attach.ensures.attached
