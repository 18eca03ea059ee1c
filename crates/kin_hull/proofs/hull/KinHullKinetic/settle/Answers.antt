use Rattle.std.proofs.Common.{◌≡◌, sym, ap, ◌∙◌, subst, List, ◌++◌, map, ℕ, ◌≤◌, false, true, rules}
use Rattle.kin_motion.specs.declared.fact.Placed.{Placed}
use Rattle.kin_motion.specs.Kinetics.{ListsFailing, HasChanged}
use Rattle.kin_motion.specs.Scene.{reflected}
use Rattle.kin_motion.proofs.ReflectedLaws.{reflected-real}
use Rattle.kin_env.specs.Trees.{Envelope, names_leaving}
use Rattle.kin_hull.specs.declared.side.Side.TheVariants.{Upper, Lower}
use Rattle.kin_hull.specs.declared.sorting.Failed.{Failed}
use Rattle.kin_hull.specs.HullLaws.{hull_settled}
use Rattle.kin_hull.specs.Hulls.{Hull, facts_of}
use Rattle.kin_hull.specs.Sides.{outward}
use Rattle.kin_hull.proofs.Parts.{facts_low}
use Rattle.kin_hull.proofs.Settling.{known, upper_failing, lower_failing, paired_again, both_reported}
use Rattle.kin_hull.proofs.hull.KinHullKinetic.settle.Goals as goal

pub settle-requires-clause-failing : goal.settle-requires-clause-failing
settle-requires-clause-failing g c =
    subst (λ (fs : List Placed). ListsFailing c.self.inside.upper.facts (names_leaving c.self.inside.upper) (g.O.Signs.scene c.args.now.now) fs) (sym c.in_ok-sort.ensures.upper)
    (upper_failing _ _ _ _ _ c.self.invariant c.self.view_is c.requires.ready _ c.requires.real c.requires.failing)

pub settle-requires-clause-low : goal.settle-requires-clause-low
settle-requires-clause-low g c =
    let pair = known _ _ _ (g.O.Signs.scene c.args.now.now) _ c.self.invariant c.self.view_is c.requires.ready in
    facts_low c.self.inside.upper pair.seen pair.settled.upper pair.small

pub settle-requires-2-clause-real : goal.settle-requires-2-clause-real
settle-requires-2-clause-real g c = reflected-real (g.O.Signs.scene c.args.now.now) c.requires.real

pub settle-requires-2-clause-failing : goal.settle-requires-2-clause-failing
settle-requires-2-clause-failing g c =
    subst (λ (fs : List Placed). ListsFailing c.self.inside.lower.facts (names_leaving c.self.inside.lower) (reflected (g.O.Signs.scene c.args.now.now)) fs)
    (sym (ap (λ (f : Failed). f.lower.items) c.settle.ensures.others ∙ c.in_ok-sort.ensures.lower))
    (lower_failing _ _ _ _ _ c.self.invariant c.self.view_is c.requires.ready _ c.requires.real c.requires.failing)

pub settle-requires-2-clause-low : goal.settle-requires-2-clause-low
settle-requires-2-clause-low g c =
    let pair = known _ _ _ (g.O.Signs.scene c.args.now.now) _ c.self.invariant c.self.view_is c.requires.ready in
    facts_low c.self.inside.lower (reflected pair.seen) pair.settled.lower (subst (λ (n : ℕ). n ≤ 12) (sym pair.size) pair.small)

pub invariant_of-self-2 : goal.invariant_of-self-2
invariant_of-self-2 g c =
    let pair = known _ _ _ (g.O.Signs.scene c.args.now.now) _ c.self.invariant c.self.view_is c.requires.ready in
    λ w. paired_again c.self.inside.upper c.self.inside.lower c.settle.new.tree c.settle-2.new.tree (g.O.Signs.scene c.args.now.now) c.requires.real pair
    c.in_ok-settle.ensures.same c.in_ok-settle-2.ensures.same c.in_ok-settle.ensures.rest c.in_ok-settle-2.ensures.rest c.in_ok-settle.ensures.settled c.in_ok-settle-2.ensures.settled

pub returns-clause-settled : goal.returns-clause-settled
returns-clause-settled g c =
    let pair = known _ _ _ (g.O.Signs.scene c.args.now.now) _ c.self.invariant c.self.view_is c.requires.ready in
    hull_settled (record { upper = c.settle.new.tree; lower = c.settle-2.new.tree; whole = true }) (g.O.Signs.scene c.args.now.now) c.requires.real c.in_ok-settle.ensures.settled c.in_ok-settle-2.ensures.settled
    (ap (λ (t : Envelope). t.size) c.in_ok-settle-2.ensures.same ∙ pair.size ∙ sym (ap (λ (t : Envelope). t.size) c.in_ok-settle.ensures.same))

pub returns-clause-delta : goal.returns-clause-delta
returns-clause-delta g c =
    subst (λ (k : Hull). HasChanged (facts_of k) (map (outward Upper) c.settle.new.tree.facts ++ map (outward Lower) c.settle-2.new.tree.facts) c.args.out.now c.settle-2.new.out) c.self.view_is
    (both_reported c.self.inside.upper.facts c.settle.new.tree.facts c.self.inside.lower.facts c.settle-2.new.tree.facts c.args.out.now c.settle.new.out c.settle-2.new.out c.in_ok-settle.ensures.delta c.in_ok-settle-2.ensures.delta)

-- who isn't whole has no invariant to keep
nothing : {P : Type 0} → false ≡ true → P
nothing e = absurd cc

pub returns-in_err-sort-clause-broken : goal.returns-in_err-sort-clause-broken
returns-in_err-sort-clause-broken g c = search rules

pub invariant_of-self-in_err-settle : goal.invariant_of-self-in_err-settle
invariant_of-self-in_err-settle g c = nothing

pub returns-in_err-settle-clause-broken : goal.returns-in_err-settle-clause-broken
returns-in_err-settle-clause-broken g c = search rules

pub invariant_of-self-in_err-settle-2 : goal.invariant_of-self-in_err-settle-2
invariant_of-self-in_err-settle-2 g c = nothing

pub returns-in_err-settle-2-clause-broken : goal.returns-in_err-settle-2-clause-broken
returns-in_err-settle-2-clause-broken g c = search rules

pub returns-clause-tests : goal.returns-clause-tests
returns-clause-tests g c = search rules
