use Rattle.std.proofs.Common.{◌≡◌, ◌<◌, length}
use Rattle.kin_rank.specs.Trees.{AreSameLeaves, IsJoinedBut}
use Rattle.kin_rank.proofs.tree.Tree.climb.Given as goal

abbrev pub invariant-loop-node : goal.invariant-loop-node
invariant-loop-node l = record {
  inner : l.node < length l.g;
  spoilt : IsJoinedBut l.g l.t l.self.nodes.items (λ v. v ≡ l.node);
  leaves : AreSameLeaves (length l.g) l.fn.self.nodes.items l.self.nodes.items;
}

abbrev pub decreases-loop-node : goal.decreases-loop-node
decreases-loop-node l = l.node
