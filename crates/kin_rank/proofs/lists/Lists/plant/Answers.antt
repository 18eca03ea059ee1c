use Rattle.std.proofs.Common.{sym, ap, ◌∙◌, length, List, ℕ, ◌*◌}
use Rattle.kin_rank.proofs.Keeping.{within_room, leaves_seen, leaves_vacant}
use Rattle.kin_rank.proofs.lists.Lists.plant.Goals as goal

pub regrow-requires-clause-within : goal.regrow-requires-clause-within
regrow-requires-clause-within c =
    let b = c.args.self.now in
    let l = c.requires.listed in
    within_room b.f.items.items b.f.places.items c.deref-then-end-gt0.result.now c.deref.result.now l.f_placed
    (ap (λ (z : List ℕ). length z) c.deref-then-end-gt0.ensures.value ∙ l.g_room ∙ sym l.f_room) c.deref.ensures.value

pub regrow-requires-clause-leaves : goal.regrow-requires-clause-leaves
regrow-requires-clause-leaves c =
    let b = c.args.self.now in
    leaves_seen b.f.items.items c.deref.result.now c.deref-then-end-gt0.result.now (length b.g.places.items) c.in_ok-tree.tree.nodes.items _ c.deref.ensures.value
    (ap (λ (z : List ℕ). length z) c.deref-then-end-gt0.ensures.value)
    (leaves_vacant b.f.items.items (length b.g.places.items) c.len-end.result (2 * c.len.result) c.in_ok-tree.tree.nodes.items c.in_ok-tree.ensures (c.len-end.ensures ∙ b.f.items.ok.0))
