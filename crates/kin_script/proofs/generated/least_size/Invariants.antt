use Rattle.std.proofs.Common.{ℕ, ◌≤◌, ◌<◌, ◌^◌, ◌-◌}
use Rattle.kin_script.proofs.generated.least_size.Given as goal

abbrev pub invariant-loop-size : goal.invariant-loop-size
invariant-loop-size l = record {
  low : 1 ≤ l.size;
  high : l.size ≤ 10;
  tight : (n : ℕ) → 1 ≤ n → n < l.size → 2 ^ n < l.count;
}

abbrev pub decreases-loop-size : goal.decreases-loop-size
decreases-loop-size l = 10 - l.size
