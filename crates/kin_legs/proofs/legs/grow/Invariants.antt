use Rattle.std.proofs.Common.{◌≡◌, ◌⊎◌, ℕ, ◌-◌, ◌≤◌, length, map}
use Rattle.std.specs.VecDeque.{deque_items}
use Rattle.kin_legs.specs.Filing.{filed_under}
use Rattle.kin_legs.proofs.legs.grow.Given as goal

abbrev pub invariant-loop-alloc : goal.invariant-loop-alloc
invariant-loop-alloc l = record {
  filed : (i : ℕ) → filed_under i (map deque_items l.queues.items) ≡ filed_under i (map deque_items l.initial.queues.items);
  few : (length l.queues.items ≤ length l.initial.queues.items) ⊎ (length l.queues.items ≤ l.count);
}

abbrev pub decreases-loop-alloc : goal.decreases-loop-alloc
decreases-loop-alloc l = l.count - length l.queues.items
