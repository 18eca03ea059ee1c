use Rattle.kin_motion.proofs.DeterminedBoxes.{boxes_determined, overlaps_determined}
use Rattle.kin_motion.proofs.OverlapLists.{one_list}
use Rattle.kin_motion.proofs.laws.overlaps_are_determined.Goals as goal

pub returns-clause-orders : goal.returns-clause-orders
returns-clause-orders c = boxes_determined

pub returns-clause-overlaps : goal.returns-clause-overlaps
returns-clause-overlaps c = overlaps_determined

pub returns-clause-one : goal.returns-clause-one
returns-clause-one c = one_list
