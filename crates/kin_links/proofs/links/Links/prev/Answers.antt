use Rattle.kin_links.specs.declared.links.NodeId.{NodeId}
use Rattle.kin_links.proofs.Calls.{node_there, prev_answer}
use Rattle.kin_links.proofs.links.Links.prev.Goals as goal

pub prev_of-requires : goal.prev_of-requires
prev_of-requires g c = node_there c.self.inside.arena.firsts.items c.self.inside.arena.nodes.slots c.args.self.now c.self.invariant c.self.view_is c.args.node.0 c.requires

pub returns : goal.returns
returns g c = λ s. prev_answer c.self.inside.arena.firsts.items c.self.inside.arena.nodes.slots c.args.self.now c.self.invariant c.self.view_is (λ (n : NodeId). n.0) c.node_before.result c.prev_of.result c.args.node.0 s c.prev_of.ensures c.node_before.ensures
