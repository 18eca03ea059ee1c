use Rattle.kin_hull.specs.FrugalLaws.{hulls_follow_trees}
use Rattle.kin_world.proofs.ChainOrder.{blocks_keep_order, insertions_keep_order, removals_keep_order}
use Rattle.kin_world.proofs.RootLaws.{proper}
use Rattle.kin_world.proofs.laws.chains_keep_order.Goals as goal

pub returns : goal.returns
returns c = record { block = blocks_keep_order; insertion = insertions_keep_order; removal = removals_keep_order; hulls = hulls_follow_trees; proper = proper }
