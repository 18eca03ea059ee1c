use Rattle.std.proofs.Common.{sym, subst, ◌∙◌}
use Rattle.kin_motion.specs.Scene.{Scene}
use Rattle.kin_overlay.specs.Overlays.{IsReady}
use Rattle.kin_cases.proofs.ToldMerges.{ready_told, run_after}
use Rattle.kin_cases.proofs.telling.Telling.settle.Goals as goal

pub settle_merge-requires-clause-real : goal.settle_merge-requires-clause-real
settle_merge-requires-clause-real g c = c.requires.real

pub settle_merge-requires-clause-same : goal.settle_merge-requires-clause-same
settle_merge-requires-clause-same g c = c.requires.same

pub settle_merge-requires-clause-ready : goal.settle_merge-requires-clause-ready
settle_merge-requires-clause-ready g c =
    let o = c.self.inside in
    subst (λ (s : Scene). IsReady o.overlay s) c.requires.same
    (ready_told (g.P.Signs.scene c.args.sight.now.signs.now) o.a.items o.b.items c.deref.result.now c.deref-2.result.now o.gone.items o.overlay c.self.invariant c.in_ok-ask_chains.ensures (sym c.deref.ensures.value) (sym c.deref-2.ensures.value))

pub settle_merge-requires-clause-gone : goal.settle_merge-requires-clause-gone
settle_merge-requires-clause-gone g c = c.self.invariant.gone_is ∙ sym c.deref-3.ensures.value

pub invariant_of-result : goal.invariant_of-result
invariant_of-result g c =
    let o = c.self.inside in
    let s = c.in_ok-overlay.ensures in
    run_after o.a.items o.b.items o.gone.items o.overlay c.in_ok-overlay.overlay c.self.invariant s.same s.rest s.gone
