use Rattle.std.proofs.Common.{length, ◌-◌, ◌≡◌, ◌≢◌, ℕ, ◌<◌, ◌≤◌, Some}
use Rattle.std.specs.Prelude.{slice_get}
use Rattle.kin_overlay.proofs.diff.count_before.Given as goal

abbrev pub invariant-loop-count : goal.invariant-loop-count
invariant-loop-count l = record {
  within : l.count ≤ length l.list;
  others : (k y : ℕ) → k < l.count → slice_get l.list k ≡ Some y → l.no ≢ y;
}

abbrev pub decreases-loop-count : goal.decreases-loop-count
decreases-loop-count l = length l.list - l.count
