use Rattle.std.proofs.Common.{ap, sym, ◌∙◌, subst, List, ℕ}
use Rattle.kin_wedge.specs.Threads.{AreThreads, web}
use Rattle.kin_wedge.proofs.Pointing.{vacant_targets, vacant_threads}
use Rattle.kin_wedge.proofs.threads.Threads.new.Goals as goal

pub invariant_of-result : goal.invariant_of-result
invariant_of-result c = subst (λ (ws : List ℕ). AreThreads ws c.in_ok-threads.threads.items) (sym (c.in_ok-words.ensures.items_if_clones_equal (λ y e. e)))
    (subst (AreThreads _) (sym c.in_ok-threads.ensures) (vacant_threads c.args.count c.requires))

pub returns : goal.returns
returns c = ap (λ (ws : List ℕ). (web ws c.in_ok-threads.threads.items).targets) (c.in_ok-words.ensures.items_if_clones_equal (λ y e. e)) ∙ vacant_targets c.args.count c.in_ok-threads.threads.items
