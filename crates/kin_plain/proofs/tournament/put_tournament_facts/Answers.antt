use Rattle.std.proofs.Common.{arith, ◌^◌}
use Rattle.kin_motion.specs.Parts.{moved_by}
use Rattle.kin_plain.specs.Nodes.{fact_of_node}
use Rattle.kin_plain.proofs.Numbering.{put_more}
use Rattle.kin_plain.proofs.tournament.put_tournament_facts.Goals as goal

pub loop-node-preserved : goal.loop-node-preserved
loop-node-preserved g c =
    let low = c.loop-node-test.true in
    let end = c.numbers_below-node-end.ensures in
    put_more (moved_by c.args.from) (fact_of_node (g.O.Signs.scene c.args.now.now) (g.K.Contest.key c.args.contest.now) c.args.size c.args.slots.now) (2 ^ c.args.size) c.loop-node.node
    c.loop-node.facts.items _ _ (omega (arith, low, end)) c.in_ok-put_node_fact.ensures c.loop-node.invariant
