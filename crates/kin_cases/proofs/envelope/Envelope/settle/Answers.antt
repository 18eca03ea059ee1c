use Rattle.std.proofs.Common.{ap, ◌∙◌, List, ℕ}
use Rattle.kin_overlay.specs.Overlays.{names_any}
use Rattle.kin_cases.proofs.Marked.{spares_gone, followed_settled}
use Rattle.kin_cases.proofs.envelope.Envelope.settle.Goals as goal

pub settle-requires-clause-spares : goal.settle-requires-clause-spares
settle-requires-clause-spares g c =
    let e = c.self.inside in
    λ p. ap (λ (l : List ℕ). names_any p.fact.form l) c.deref.ensures.value ∙ spares_gone e.size e.motions e.tree e.gone.items e.fresh.items c.self.invariant p

pub invariant_of-result : goal.invariant_of-result
invariant_of-result g c =
    let e = c.self.inside in
    let s = c.in_ok-tree.ensures in
    followed_settled e.size e.motions e.tree c.in_ok-tree.tree e.gone.items e.fresh.items c.new.result.items c.new-2.result.items c.self.invariant s.stays s.rest c.new.ensures.items c.new-2.ensures.items
