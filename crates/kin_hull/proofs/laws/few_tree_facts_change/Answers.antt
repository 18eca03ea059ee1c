use Rattle.kin_hull.proofs.HullSums.{few_hull_facts_are_reported}
use Rattle.kin_hull.proofs.RecordSums.{few_tree_facts_are_reported}
use Rattle.kin_hull.proofs.laws.few_tree_facts_change.Goals as goal

pub returns : goal.returns
returns c = record { tree = few_tree_facts_are_reported; hull = few_hull_facts_are_reported }
