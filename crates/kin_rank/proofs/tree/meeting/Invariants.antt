use Rattle.std.proofs.Common.{◌≡◌, ◌+◌, ◌/◌, ◌≤◌}
use Rattle.std.specs.Prelude.{◌⊎◌}
use Rattle.kin_rank.specs.Trees.{IsClimb}
use Rattle.kin_rank.proofs.tree.meeting.Given as goal

abbrev pub invariant-loop-left : goal.invariant-loop-left
invariant-loop-left l = record {
  climb : IsClimb l.fn.a l.fn.b l.left l.right;
  below : l.left ≤ l.fn.a;
  above : (l.fn.a ≡ l.fn.b → ⊥) → ((l.left ≡ l.fn.a) × (l.right ≡ l.fn.b)) ⊎ (l.left ≤ l.fn.a / 2);
}

abbrev pub decreases-loop-left : goal.decreases-loop-left
decreases-loop-left l = l.left + l.right
