use Rattle.std.proofs.Common.{◌≤◌, ◌/◌, length}
use Rattle.std.specs.Prelude.{◌⊎◌}
use Rattle.kin_rank.specs.Trees.{AreSameLeaves, IsAbove, IsJoinedBut}
use Rattle.kin_rank.proofs.tree.Tree.renew_all.Given as goal

abbrev pub invariant-loop-node : goal.invariant-loop-node
invariant-loop-node l = record {
  spoilt : IsJoinedBut l.g l.t l.self.nodes.items (λ v. ((l.node ≤ v) × (v ≤ l.fn.to)) ⊎ IsAbove (l.fn.from / 2) (l.fn.to / 2) v);
  leaves : AreSameLeaves (length l.g) l.fn.self.nodes.items l.self.nodes.items;
}
