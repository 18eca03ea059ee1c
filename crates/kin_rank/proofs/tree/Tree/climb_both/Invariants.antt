use Rattle.std.proofs.Common.{◌≡◌, ◌<◌, ◌+◌, length}
use Rattle.std.specs.Prelude.{◌⊎◌}
use Rattle.kin_rank.specs.Trees.{AreSameLeaves, IsJoinedBut}
use Rattle.kin_rank.proofs.tree.Tree.climb_both.Given as goal

abbrev pub invariant-loop-left : goal.invariant-loop-left
invariant-loop-left l = record {
  left : l.left < length l.g;
  right : l.right < length l.g;
  spoilt : IsJoinedBut l.g l.t l.self.nodes.items (λ v. (v ≡ l.left) ⊎ (v ≡ l.right));
  leaves : AreSameLeaves (length l.g) l.fn.self.nodes.items l.self.nodes.items;
}

abbrev pub decreases-loop-left : goal.decreases-loop-left
decreases-loop-left l = l.left + l.right
