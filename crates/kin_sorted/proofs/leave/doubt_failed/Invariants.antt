use Rattle.std.proofs.Common.{◌≡◌, ℕ, ◌+◌, ◌<◌, ◌≤◌, Some, true, length}
use Rattle.std.specs.Prelude.{slice_get}
use Rattle.kin_motion.specs.declared.fact.Placed.{Placed}
use Rattle.kin_motion.specs.Numbers.{is_in}
use Rattle.kin_sorted.proofs.leave.doubt_failed.Given as goal

abbrev pub invariant-loop-placed : goal.invariant-loop-placed
invariant-loop-placed g l = record {
  covered : (k : ℕ) (f : Placed) (i j p : ℕ) → k < l.placed-index → slice_get l.failed k ≡ Some f → f.part ≡ (g.R.Ranked.ranks l.rank).part i j → f.fact.form ≡ (g.R.Ranked.ranks l.rank).form i j
      → slice_get l.row.items p ≡ Some i → slice_get l.row.items (p + 1) ≡ Some j → is_in i l.doubts ≡ true;
  keeps : (q : ℕ) → is_in q l.initial.doubts ≡ true → is_in q l.doubts ≡ true;
  few : length l.doubts ≤ length l.initial.doubts + l.placed-index;
}
