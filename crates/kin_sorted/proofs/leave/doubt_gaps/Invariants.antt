use Rattle.std.proofs.Common.{◌≡◌, ℕ, ◌+◌, ◌<◌, ◌≤◌, Some, true, length}
use Rattle.std.specs.Prelude.{slice_get, ◌⊎◌}
use Rattle.kin_motion.specs.Numbers.{is_in}
use Rattle.kin_sorted.proofs.leave.doubt_gaps.Given as goal

abbrev pub invariant-loop-slot : goal.invariant-loop-slot
invariant-loop-slot l = record {
  covered : (k i p : ℕ) → k < l.slot-index → slice_get l.touched k ≡ Some i → slice_get l.row.items p ≡ Some i → p + 1 < length l.row.items → is_in i l.doubts ≡ true;
  keeps : (q : ℕ) → is_in q l.initial.doubts ≡ true → is_in q l.doubts ≡ true;
  two : (q : ℕ) → is_in q l.doubts ≡ true → (is_in q l.initial.doubts ≡ true) ⊎ (2 ≤ length l.row.items);
  few : length l.doubts ≤ length l.initial.doubts + l.slot-index;
}
