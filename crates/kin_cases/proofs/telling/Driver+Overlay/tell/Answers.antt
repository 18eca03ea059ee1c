use Rattle.std.proofs.Common.{sym, ap, ◌∙◌, subst, List, ◌++◌, ℕ}
use Rattle.std.specs.Prelude.{Contains}
use Rattle.kin_motion.specs.declared.fact.Placed.{Placed}
use Rattle.kin_motion.specs.Edits.{Edit, all_edited, dropped_by}
use Rattle.kin_motion.specs.Sets.{ListsExactly}
use Rattle.kin_overlay.specs.Overlays.{Merge, told, told_chain}
use Rattle.kin_cases.proofs.ToldMerges.{told_facts, told_gone, told_of}
use Rattle.kin_cases.proofs.telling.Driver+Overlay.tell.Goals as goal

pub invariant_of-result : goal.invariant_of-result
invariant_of-result c =
    subst (λ (fs : List Placed). ListsExactly c.self.inside.facts.items (Contains fs)) (sym (ap (λ (m : Merge). m.facts) c.in_ok-edit.ensures.told ∙ told_facts c.args.half _ c.self.inside.structure)) c.self.invariant

pub returns-clause-told : goal.returns-clause-told
returns-clause-told c =
    let es = c.deref-2.result.now in
    told_of c.args.half es c.args.self _ c.args.new.now (c.in_ok-edit.ensures.told ∙ ap (told c.args.half es) c.self.view_is)
    (ap (λ (fs : List Edit). all_edited fs (told_chain c.args.half c.args.self)) c.deref-2.ensures.value ∙ ap (λ (xs : List ℕ). all_edited c.diff.new.edits.items xs) c.requires.old ∙ c.in_ok-diff.ensures.lead)

pub returns-clause-gone : goal.returns-clause-gone
returns-clause-gone c =
    let es = c.deref-2.result.now in
    let gone = c.args.gone.now.items in
    told_gone c.args.half es c.args.self _ c.args.old.now gone (c.in_ok-edit.ensures.told ∙ ap (told c.args.half es) c.self.view_is) c.requires.old c.requires.gone
    ∙ ap (λ (fs : List Edit). gone ++ dropped_by fs c.args.old.now) (c.deref-2.ensures.value ∙ sym c.deref.ensures.value)
    ∙ ap (λ (xs : List ℕ). gone ++ dropped_by c.deref.result.now xs) (sym c.in_ok-chain.ensures.ok)
    ∙ sym c.in_ok-edit_list.ensures.gone
