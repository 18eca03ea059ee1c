use Rattle.std.proofs.Common.{subst, List, map}
use Rattle.kin_algebra.proofs.Results.{for_ok, at_ok}
use Rattle.kin_motion.specs.declared.fact.Placed.{Placed}
use Rattle.kin_motion.specs.Kinetics.{HasChanged}
use Rattle.kin_motion.specs.Parts.{moved_by}
use Rattle.kin_sorted.proofs.TellingLaws.{moved_nowhere}
use Rattle.kin_list.proofs.list.KinListKinetic.settle.Goals as goal

pub returns-clause-delta : goal.returns-clause-delta
returns-clause-delta g c = for_ok c.settle_in.result _ (λ v e.
    let old = c.args.self.now.facts in
    let new = c.settle_in.new.self.facts in
    subst (λ (fs : List Placed). HasChanged fs new c.args.out.now c.settle_in.new.out) (moved_nowhere old)
    (subst (λ (fs : List Placed). HasChanged (map (moved_by 0) old) fs c.args.out.now c.settle_in.new.out) (moved_nowhere new) (at_ok c.settle_in.result _ v e c.settle_in.ensures.delta)))
