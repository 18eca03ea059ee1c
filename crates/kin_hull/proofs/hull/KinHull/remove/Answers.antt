use Rattle.std.proofs.Common.{rules, ◌≡◌, ◌<◌, ◌^◌, sym, ◌∙◌, subst, true, false}
use Rattle.kin_env.specs.MarkLaws.{spares_leaving}
use Rattle.kin_env.specs.Trees.{Envelope, names_leaving}
use Rattle.kin_env.specs.Walks.{slot_in}
use Rattle.kin_hull.specs.Hulls.{Hull, IsHullAtRest}
use Rattle.kin_hull.proofs.hull.KinHull.remove.Goals as goal

pub returns-clause-spares : goal.returns-clause-spares
returns-clause-spares c =
    let rest = subst (λ (k : Hull). IsHullAtRest k) (sym c.self.view_is) c.requires.rest in
    let within = subst (λ (k : Hull). c.args.no < 2 ^ k.upper.size) (sym c.self.view_is) c.requires.within in
    let held = subst (λ (k : Hull). slot_in k.upper.slots c.args.no ≡ true) (sym c.self.view_is) c.requires.member in
    λ p spared. sym (spares_leaving c.self.inside.upper rest.upper c.args.no within held p) ∙ subst (λ (t : Envelope). names_leaving t p ≡ false) c.clear.ensures spared

pub invariant_of-self : goal.invariant_of-self
invariant_of-self c = search rules

pub returns-clause-marked : goal.returns-clause-marked
returns-clause-marked c = search rules
