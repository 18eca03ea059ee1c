use Rattle.std.proofs.Common.{◌≡◌, ◌≤◌, ◌++◌, length, take, not, reverse, ℕ}
use Rattle.std.specs.Prelude.{filter}
use Rattle.kin_motion.specs.Numbers.{is_in}
use Rattle.kin_plain.proofs.cycle.put_back.Given as goal

abbrev pub invariant-loop-left : goal.invariant-loop-left
invariant-loop-left l = record {
  within : l.left ≤ length l.upper;
  value : l.cycle.items ++ filter (λ (p : ℕ). not (is_in p l.lower)) (reverse (take l.left l.upper)) ≡ l.fn.cycle.items ++ filter (λ (p : ℕ). not (is_in p l.lower)) (reverse l.upper);
}

abbrev pub decreases-loop-left : goal.decreases-loop-left
decreases-loop-left l = l.left
