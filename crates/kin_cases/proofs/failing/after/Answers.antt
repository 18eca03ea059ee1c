use Rattle.std.proofs.Common.{sym, subst, ◌∙◌, ap, List, ◌++◌}
use Rattle.std.specs.Prelude.{Contains}
use Rattle.kin_motion.specs.declared.fact.Placed.{Placed}
use Rattle.kin_motion.specs.Deltas.{Change}
use Rattle.kin_motion.specs.Sets.{ListsExactly}
use Rattle.kin_cases.proofs.Reports.{facts_after}
use Rattle.kin_cases.proofs.failing.after.Goals as goal

pub returns : goal.returns
returns c = λ old new told change.
    let dropped = c.deref.ensures.value ∙ ap (λ (d : Change). d.dropped) c.report.view_is in
    let born = c.deref-2.ensures.value ∙ ap (λ (d : Change). d.born) c.report.view_is in
    subst (λ (fs : List Placed). ListsExactly fs (Contains new)) (sym (c.in_ok-extend_from_slice.ensures.items ∙ ap (λ (fs : List Placed). c.in_ok-after.after.items ++ fs) born))
    (facts_after c.args.facts.now c.in_ok-after.after.items old new c.args.report.now told change
    (subst (λ (fs : List Placed). ListsExactly c.in_ok-after.after.items (λ p. Contains c.args.facts.now p × ¬ (Contains fs p))) dropped c.in_ok-after.ensures))
