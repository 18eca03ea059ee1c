use Rattle.std.proofs.Common.{◌<◌, length}
use Rattle.kin_rank.specs.Trees.{AreSameLeaves, IsAbove, IsJoinedBut}
use Rattle.kin_rank.proofs.tree.Tree.renew_above.Given as goal

abbrev pub invariant-loop-high : goal.invariant-loop-high
invariant-loop-high l = record {
  inner : l.high < length l.g;
  spoilt : IsJoinedBut l.g l.t l.self.nodes.items (IsAbove l.low l.high);
  leaves : AreSameLeaves (length l.g) l.fn.self.nodes.items l.self.nodes.items;
}

abbrev pub decreases-loop-high : goal.decreases-loop-high
decreases-loop-high l = l.high
