use Rattle.kin_links.proofs.Calls.{node_there, item_answer}
use Rattle.kin_links.proofs.links.Links.item.Goals as goal

pub item_of-requires : goal.item_of-requires
item_of-requires g c = node_there c.self.inside.arena.firsts.items c.self.inside.arena.nodes.slots c.args.self.now c.self.invariant c.self.view_is c.args.node.0 c.requires

pub returns : goal.returns
returns g c = λ s. item_answer c.self.inside.arena.firsts.items c.self.inside.arena.nodes.slots c.args.self.now c.self.invariant c.self.view_is c.args.node.0 c.item_of.result c.item_of.ensures s
