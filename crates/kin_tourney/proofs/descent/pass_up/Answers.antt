use Rattle.kin_tourney.proofs.Climbing.{climbing_more}
use Rattle.kin_tourney.proofs.descent.pass_up.Goals as goal

pub loop-node-preserved : goal.loop-node-preserved
loop-node-preserved c = climbing_more c.args.doubts.now c.args.node c.loop-node.doubts c.loop-node.node c.loop-node.invariant (c.is_passage.ensures c.loop-node-test.true)
