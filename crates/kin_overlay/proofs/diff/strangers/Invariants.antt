use Rattle.std.proofs.Common.{length, ◌-◌, ◌≡◌, ℕ, ◌<◌, ◌≤◌, false, Some}
use Rattle.std.specs.Prelude.{slice_get}
use Rattle.kin_motion.specs.Numbers.{is_in}
use Rattle.kin_overlay.proofs.diff.strangers.Given as goal

abbrev pub invariant-loop-count : goal.invariant-loop-count
invariant-loop-count l = record {
  within : l.count ≤ length l.list;
  strange : (k x : ℕ) → k < l.count → slice_get l.list k ≡ Some x → is_in x l.other ≡ false;
}

abbrev pub decreases-loop-count : goal.decreases-loop-count
decreases-loop-count l = length l.list - l.count
