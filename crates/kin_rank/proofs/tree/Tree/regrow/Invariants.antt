use Rattle.std.proofs.Common.{◌<◌, ◌≤◌, ◌+◌, ◌-◌, ◌/◌, length}
use Rattle.kin_rank.specs.Trees.{AreLeavesBut, IsAbove, IsJoinedBut}
use Rattle.kin_rank.proofs.tree.Tree.regrow.Given as goal

abbrev pub invariant-loop-p : goal.invariant-loop-p
invariant-loop-p l = record {
  leaves : AreLeavesBut l.items (length l.g) l.self.nodes.items (λ q. (l.p ≤ q) × (q < l.fn.end));
  spoilt : IsJoinedBut l.g l.t l.self.nodes.items (IsAbove ((length l.g + l.fn.from) / 2) ((length l.g + l.fn.end - 1) / 2));
}
