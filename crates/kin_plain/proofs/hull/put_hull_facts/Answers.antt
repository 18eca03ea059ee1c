use Rattle.std.proofs.Common.{arith, ◌^◌}
use Rattle.kin_motion.specs.Merges.{hull_facts_of_node}
use Rattle.kin_plain.proofs.LiveLists.{numbers_fit}
use Rattle.kin_plain.proofs.Merging.{node_put}
use Rattle.kin_plain.proofs.Numbering.{joined_more}
use Rattle.kin_plain.proofs.hull.put_hull_facts.Goals as goal

pub loop-node-preserved : goal.loop-node-preserved
loop-node-preserved g c =
    let low = c.loop-node-test.true in
    let end = c.numbers_below-node-end.ensures in
    joined_more (hull_facts_of_node c.args.size (g.O.Signs.scene c.args.now.now)) (2 ^ c.args.size) c.loop-node.node c.loop-node.facts.items c.put_node-in-loop-node.new.facts.items _
    (omega (arith, low, end))
    (node_put (g.O.Signs.scene c.args.now.now) c.args.size c.loop-node.node c.loop-node.facts.items c.put_node.new.facts.items c.put_node-in-loop-node.new.facts.items c.in_ok-put_node.ensures
    c.in_ok-put_node-2.ensures) c.loop-node.invariant

pub put_node-requires-clause-small : goal.put_node-requires-clause-small
put_node-requires-clause-small g c = numbers_fit (g.O.Signs.scene c.args.now.now) c.args.size c.args.live.now c.requires.fits c.requires.live

pub put_node-requires-in-loop-node-clause-small : goal.put_node-requires-in-loop-node-clause-small
put_node-requires-in-loop-node-clause-small g c = numbers_fit (g.O.Signs.scene c.args.now.now) c.args.size c.args.live.now c.requires.fits c.requires.live
