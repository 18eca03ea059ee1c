use Rattle.std.proofs.Common.{sym, ◌∙◌, ℕ}
use Rattle.std.proofs.lemmas.List.Elements.{All-same}
use Rattle.std.proofs.lemmas.Result.{on_ok_weaker}
use Rattle.kin_motion.specs.Numbers.{IsIn}
use Rattle.kin_motion.specs.Scene.{placed_at}
use Rattle.kin_plain.proofs.Merging.{node_made}
use Rattle.kin_plain.proofs.hull.put_node.Goals as goal

pub put_merged-requires-clause-same : goal.put_merged-requires-clause-same
put_merged-requires-clause-same g c = sym c.requires.seen ∙ c.requires.live

pub put_merged-requires-clause-a_live : goal.put_merged-requires-clause-a_live
put_merged-requires-clause-a_live g c = All-same (λ (i : ℕ). IsIn i (g.V.Signs.scene c.args.view.now).live) c.deref.result.now c.in_ok-a.a.items c.deref.ensures.value c.in_ok-a.ensures.live

pub put_merged-requires-clause-b_live : goal.put_merged-requires-clause-b_live
put_merged-requires-clause-b_live g c = All-same (λ (i : ℕ). IsIn i (g.V.Signs.scene c.args.view.now).live) c.deref-2.result.now c.in_ok-b.b.items c.deref-2.ensures.value c.in_ok-b.ensures.live

pub returns : goal.returns
returns g c =
    on_ok_weaker c.put_merged.result
    (λ put.
    node_made (placed_at (g.O.Signs.scene c.args.now.now) c.args.part) (g.V.Signs.scene c.args.view.now) (g.O.Signs.scene c.args.now.now) c.args.size c.args.node c.deref.result.now
    c.deref-2.result.now c.args.facts.now.items
    c.put_merged.new.facts.items (c.deref.ensures.value ∙ c.in_ok-a.ensures.value) (c.deref-2.ensures.value ∙ c.in_ok-b.ensures.value) put)
    c.put_merged.ensures
