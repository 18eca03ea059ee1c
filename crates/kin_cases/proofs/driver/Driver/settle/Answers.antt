use Rattle.std.proofs.Common.{sym, ap, ◌∙◌, subst, List}
use Rattle.std.specs.Prelude.{Contains}
use Rattle.kin_motion.specs.declared.fact.Placed.{Placed}
use Rattle.kin_motion.specs.Kinetics.{ListsFailing}
use Rattle.kin_motion.specs.Scene.{scene_at}
use Rattle.kin_motion.specs.Sets.{AreDistinct, ListsExactly}
use Rattle.kin_cases.proofs.driver.Driver.settle.Goals as goal

pub settle_steadily-requires-clause-failing : goal.settle_steadily-requires-clause-failing
settle_steadily-requires-clause-failing g c =
    let structure = c.self.inside.structure in
    subst (λ (fs : List Placed). ListsFailing (g.K.Kinetic.facts structure) (g.K.Kinetic.is_spared structure) (scene_at c.args.now.now.motions.now c.args.now.now.moment.now) fs) (sym c.deref-2.ensures.value)
    (c.in_ok-failed.ensures.failing (g.K.Kinetic.facts structure) (g.K.Kinetic.is_spared structure)
    (subst (λ (fs : List Placed). ListsExactly fs (Contains (g.K.Kinetic.facts structure))) (sym c.deref.ensures.value) (record { once = c.self.invariant.once; each = c.self.invariant.each }))
    (λ p. c.requires.spares p ∙ ap (λ k. g.K.Kinetic.is_spared k p) (sym c.self.view_is)))

pub after-requires : goal.after-requires
after-requires g c = subst (λ (fs : List Placed). AreDistinct fs) (sym c.deref-3.ensures.value) c.self.invariant.once
