use Rattle.kin_rank.proofs.tree.Tree.follow.Goals as goal

pub climb-requires-clause-spoilt : goal.climb-requires-clause-spoilt
climb-requires-clause-spoilt c = c.requires.spoilt c.meeting-from.result c.meeting-from.ensures.meets
