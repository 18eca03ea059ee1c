use Rattle.std.proofs.Common.{◌≡◌, ℕ, ◌-◌, ◌<◌, ◌≤◌, Some, length}
use Rattle.std.specs.Prelude.{slice_get}
use Rattle.kin_range.specs.Sides.{is_within}
use Rattle.kin_range.proofs.span.turning_place.Given as goal

abbrev pub invariant-loop-low : goal.invariant-loop-low
invariant-loop-low g l = record {
  ordered : l.from ≤ l.low;
  low_high : l.low ≤ l.high;
  within : l.high ≤ length l.items;
  earlier : (p i : ℕ) → p < l.low → l.from ≤ p → slice_get l.items p ≡ Some i → is_within l.motions l.now l.side i ≡ l.inner;
  later : (p i : ℕ) → l.high ≤ p → slice_get l.items p ≡ Some i → is_within l.motions l.now l.side i ≡ l.inner → ⊥;
}

abbrev pub decreases-loop-low : goal.decreases-loop-low
decreases-loop-low g l = l.high - l.low
