use Rattle.kin_links.specs.declared.links.NodeId.{NodeId}
use Rattle.kin_links.proofs.Calls.{first_answer, apart}
use Rattle.kin_links.proofs.links.Links.first.Goals as goal

pub returns-clause-first : goal.returns-clause-first
returns-clause-first g c = λ items listed. first_answer c.self.inside.arena.firsts.items c.self.inside.arena.nodes.slots c.args.self.now c.self.invariant c.self.view_is (λ (n : NodeId). n.0) c.named.result c.next_of.result c.args.list.0 items listed c.next_of.ensures c.named.ensures

pub returns-clause-apart : goal.returns-clause-apart
returns-clause-apart g c = apart c.self.inside.arena.firsts.items c.self.inside.arena.nodes.slots c.args.self.now c.self.invariant c.self.view_is
