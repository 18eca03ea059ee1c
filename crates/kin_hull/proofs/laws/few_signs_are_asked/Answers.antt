use Rattle.kin_hull.proofs.HullSums.{few_hull_signs}
use Rattle.kin_hull.proofs.RecordSums.{few_merge_signs, few_tree_signs}
use Rattle.kin_hull.proofs.laws.few_signs_are_asked.Goals as goal

pub returns : goal.returns
returns c = record { merge = few_merge_signs; tree = few_tree_signs; hull = few_hull_signs }
