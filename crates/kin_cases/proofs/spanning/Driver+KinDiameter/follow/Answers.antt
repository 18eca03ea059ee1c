use Rattle.std.proofs.Common.{refl, sym, subst, List, []}
use Rattle.std.specs.Prelude.{Contains}
use Rattle.kin_motion.specs.declared.fact.Placed.{Placed}
use Rattle.kin_motion.specs.Deltas.{Change}
use Rattle.kin_motion.specs.Kinetics.{HasChanged, ListsFailing}
use Rattle.kin_motion.specs.Scene.{scene_at}
use Rattle.kin_motion.specs.Sets.{AreDistinct, ListsExactly}
use Rattle.kin_diameter.specs.Diameter.{Diameter, facts_of, names_leaving}
use Rattle.kin_cases.proofs.spanning.Driver+KinDiameter.follow.Goals as goal

pub failing_at-requires : goal.failing_at-requires
failing_at-requires g c = subst (λ (fs : List Placed). AreDistinct fs) (sym c.deref.ensures.value) c.self.invariant.once

pub settle-requires-clause-failing : goal.settle-requires-clause-failing
settle-requires-clause-failing g c =
    let facts = facts_of c.self.inside.structure in
    let s = scene_at c.args.now.now.motions.now c.args.now.now.moment.now in
    subst (λ (k : Diameter). ListsFailing (facts_of k) (names_leaving k.leaving) s c.deref-2.result.now) (sym c.in_ok-tell.ensures)
    (subst (λ (fs : List Placed). ListsFailing facts (names_leaving c.args.leaving) s fs) (sym c.deref-2.ensures.value)
    (c.in_ok-failed.ensures.failing facts (names_leaving c.args.leaving)
    (subst (λ (fs : List Placed). ListsExactly fs (Contains facts)) (sym c.deref.ensures.value) (record { once = c.self.invariant.once; each = c.self.invariant.each }))
    (λ p. refl)))

pub after-requires : goal.after-requires
after-requires g c = subst (λ (fs : List Placed). AreDistinct fs) (sym c.deref-3.ensures.value) c.self.invariant.once

pub invariant_of-result : goal.invariant_of-result
invariant_of-result g c =
    let facts = facts_of c.self.inside.structure in
    let now = facts_of c.settle.new.self in
    c.in_ok-facts.ensures facts now
    (subst (λ (fs : List Placed). ListsExactly fs (Contains facts)) (sym c.deref-3.ensures.value) (record { once = c.self.invariant.once; each = c.self.invariant.each }))
    (subst (λ (k : Diameter). HasChanged (facts_of k) now (record { dropped = []; born = [] }) c.settle.new.out) c.in_ok-tell.ensures
    (subst (λ (d : Change). HasChanged (facts_of c.tell.new.pair) now d c.settle.new.out) c.new-out.ensures c.in_ok-settle.ensures.delta))
