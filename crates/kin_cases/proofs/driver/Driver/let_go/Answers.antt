use Rattle.std.proofs.Common.{◌≡◌, refl, sym, subst, rules, List, length}
use Rattle.std.specs.Prelude.{Contains}
use Rattle.kin_motion.specs.declared.fact.Placed.{Placed}
use Rattle.kin_motion.specs.Forms.{names}
use Rattle.kin_motion.specs.Scene.{scene_at}
use Rattle.kin_motion.specs.Sets.{ListsExactly, AreDistinct}
use Rattle.kin_cases.proofs.Keepings.{unspared_hold}
use Rattle.kin_cases.proofs.driver.Driver.let_go.Goals as goal

pub leave-requires-clause-hold : goal.leave-requires-clause-hold
leave-requires-clause-hold g c =
    let facts = g.K.Kinetic.facts c.self.inside.structure in
    let none : length c.in_ok-failed.failed.items ≡ 0 = search rules in
    unspared_hold (scene_at c.args.now.now.motions.now c.args.now.now.moment.now) facts c.in_ok-failed.failed.items (λ p. names p.fact.form c.args.no)
    none
    (c.in_ok-failed.ensures.failing facts (λ p. names p.fact.form c.args.no)
    (subst (λ (fs : List Placed). ListsExactly fs (Contains facts)) (sym c.deref.ensures.value) (record { once = c.self.invariant.once; each = c.self.invariant.each })) (λ p. refl))

pub after-requires : goal.after-requires
after-requires g c = subst (λ (fs : List Placed). AreDistinct fs) (sym c.deref-2.ensures.value) c.self.invariant.once
