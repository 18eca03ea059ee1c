use Rattle.kin_links.specs.declared.links.NodeId.{NodeId}
use Rattle.kin_links.proofs.Calls.{behind_held, next_answer, apart}
use Rattle.kin_links.proofs.links.Links.next.Goals as goal

pub next_of-requires : goal.next_of-requires
next_of-requires g c = behind_held c.self.inside.arena.firsts.items c.self.inside.arena.nodes.slots c.args.self.now c.self.invariant c.self.view_is c.args.node.0 c.requires

pub returns-clause-next : goal.returns-clause-next
returns-clause-next g c = λ s. next_answer c.self.inside.arena.firsts.items c.self.inside.arena.nodes.slots c.args.self.now c.self.invariant c.self.view_is (λ (n : NodeId). n.0) c.named.result c.next_of.result c.args.node.0 s c.next_of.ensures c.named.ensures

pub returns-clause-apart : goal.returns-clause-apart
returns-clause-apart g c = apart c.self.inside.arena.firsts.items c.self.inside.arena.nodes.slots c.args.self.now c.self.invariant c.self.view_is
