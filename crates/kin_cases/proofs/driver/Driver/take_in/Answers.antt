use Rattle.std.proofs.Common.{◌≡◌, refl, sym, subst, rules, List, length, false}
use Rattle.std.specs.Prelude.{Contains}
use Rattle.kin_motion.specs.declared.fact.Placed.{Placed}
use Rattle.kin_motion.specs.Scene.{scene_at}
use Rattle.kin_motion.specs.Sets.{ListsExactly, AreDistinct}
use Rattle.kin_cases.proofs.Keepings.{all_hold}
use Rattle.kin_cases.proofs.driver.Driver.take_in.Goals as goal

pub enter-requires-clause-hold : goal.enter-requires-clause-hold
enter-requires-clause-hold g c =
    let facts = g.K.Kinetic.facts c.self.inside.structure in
    let none : length c.in_ok-failed.failed.items ≡ 0 = search rules in
    all_hold (scene_at c.args.now.now.motions.now c.args.now.now.moment.now) facts c.in_ok-failed.failed.items
    none
    (c.in_ok-failed.ensures.failing facts (λ p. false)
    (subst (λ (fs : List Placed). ListsExactly fs (Contains facts)) (sym c.deref.ensures.value) (record { once = c.self.invariant.once; each = c.self.invariant.each })) (λ p. refl))

pub after-requires : goal.after-requires
after-requires g c = subst (λ (fs : List Placed). AreDistinct fs) (sym c.deref-2.ensures.value) c.self.invariant.once
