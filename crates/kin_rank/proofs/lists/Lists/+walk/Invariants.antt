use Rattle.kin_rank.proofs.lists.Lists.+walk.Given as goal

abbrev pub decreases-walk : goal.decreases-walk
decreases-walk l = l.height
