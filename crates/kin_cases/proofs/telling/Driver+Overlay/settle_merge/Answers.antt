use Rattle.std.proofs.Common.{sym, ap, ◌∙◌, subst, List, ℕ}
use Rattle.std.specs.Prelude.{Contains}
use Rattle.kin_motion.specs.declared.fact.Placed.{Placed}
use Rattle.kin_motion.specs.Sets.{AreDistinct, ListsExactly}
use Rattle.kin_overlay.specs.Overlays.{Merge, names_any, names_gone}
use Rattle.kin_cases.proofs.Reports.{lists_failing}
use Rattle.kin_cases.proofs.telling.Driver+Overlay.settle_merge.Goals as goal

pub failing-requires : goal.failing-requires
failing-requires g c = subst (λ (fs : List Placed). AreDistinct fs) (sym c.deref.ensures.value) c.self.invariant.once

pub settle-requires-clause-failing : goal.settle-requires-clause-failing
settle-requires-clause-failing g c =
    let structure = c.self.inside.structure in
    lists_failing (g.O.Signs.scene c.args.now.now) (g.P.Signs.scene c.args.sight.now.signs.now) c.deref.result.now structure.facts c.in_ok-failed.failed.items c.deref-2.result.now (λ p. names_any p.fact.form c.args.gone.now) (names_gone structure)
    c.requires.same c.deref-2.ensures.value
    (λ p. ap (λ (is : List ℕ). names_any p.fact.form is) (sym (ap (λ (m : Merge). m.gone) c.self.view_is ∙ c.requires.gone)))
    (subst (λ (fs : List Placed). ListsExactly fs (Contains structure.facts)) (sym c.deref.ensures.value) (record { once = c.self.invariant.once; each = c.self.invariant.each }))
    c.in_ok-failed.ensures

pub after-requires : goal.after-requires
after-requires g c = subst (λ (fs : List Placed). AreDistinct fs) (sym c.deref-3.ensures.value) c.self.invariant.once
